-- The command line, as `clap` sees it.
use Rattle.std.specs.Prelude.{ℕ, List, codes, true, Some}
use Rattle.clap.specs.Words.{App, Rule, Shape, new_app, new_rule, with_rule, with_subcommand}
use Rattle.clap.specs.declared.builder.action.ArgAction.TheVariants.{Set}

-- `session`, which takes no words.
abbrev pub session_shape : Shape
session_shape = (new_app (codes "session")).top

-- `ingest`, which takes no words.
abbrev pub ingest_shape : Shape
ingest_shape = (new_app (codes "ingest")).top

-- The id of a trace: it is wanted, and is one word.
abbrev pub id_rule : Rule
id_rule = record (new_rule (codes "id")) { required = true; action = Some Set }

-- `trace ID`.
abbrev pub trace_shape : Shape
trace_shape = (with_rule (new_app (codes "trace")) id_rule).top

-- An option `--name` with one value.
abbrev pub option_rule : List ℕ → Rule
option_rule name = record (new_rule name) { long = Some name; action = Some Set }

-- The query of a search: it is wanted, and is one word.
abbrev pub query_rule : Rule
query_rule = record (new_rule (codes "query")) { required = true; action = Some Set }

-- `search` with its options.
abbrev pub search_shape : Shape
search_shape =
    (with_rule (with_rule (with_rule (with_rule (with_rule (new_app (codes "search"))
    (option_rule (codes "limit"))) (option_rule (codes "spss"))) (option_rule (codes "start"))) (option_rule (codes "end"))) query_rule).top

-- An option `--name` with one value that is wanted.
abbrev pub wanted_option_rule : List ℕ → Rule
wanted_option_rule name = record (new_rule name) { long = Some name; required = true; action = Some Set }

-- `drill` with its two options.
abbrev pub drill_shape : Shape
drill_shape =
    (with_rule (with_rule (new_app (codes "drill")) (wanted_option_rule (codes "seed"))) (wanted_option_rule (codes "traces"))).top

-- `serve` with its two options, of which the second may be left out.
abbrev pub serve_shape : Shape
serve_shape =
    (with_rule (with_rule (new_app (codes "serve")) (wanted_option_rule (codes "clients"))) (option_rule (codes "rounds"))).top

-- The command without its subcommands: the words begin with the first, a subcommand is wanted, and there is no help.
abbrev pub bare_app : App
bare_app = record (new_app (codes "vurnda")) {
  top = record (new_app (codes "vurnda")).top {
    no_binary_name = true;
    subcommand_required = true;
    disable_help_flag = true;
    disable_help_subcommand = true;
  };
}

-- The whole command.
unfoldable pub words_app : App
words_app =
    with_subcommand (with_subcommand (with_subcommand (with_subcommand (with_subcommand (with_subcommand bare_app
    session_shape) ingest_shape) trace_shape) search_shape) drill_shape) serve_shape
