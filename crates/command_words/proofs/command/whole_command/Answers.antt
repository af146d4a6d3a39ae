use Rattle.std.proofs.Common.{◌∙◌, ap₂}
use Rattle.std.proofs.lemmas.Result.{IfOk-weaker}
use Rattle.clap.specs.Words.{with_subcommand}
use Rattle.command_words.specs.Table.{words_app}
use Rattle.command_words.proofs.command.whole_command.Goals as goal

pub returns : goal.returns
unfolding words_app
returns c =
    let first = c.in_ok-subcommand.ensures.shape c.session_command.ensures.local ∙ ap₂ with_subcommand c.bare_command.ensures c.session_command.ensures.shape in
    let second = c.in_ok-subcommand-2.ensures.shape c.ingest_command.ensures.local ∙ ap₂ with_subcommand first c.ingest_command.ensures.shape in
    let given = c.in_ok-trace_command.ensures in
    let third = c.in_ok-subcommand-3.ensures.shape given.local ∙ ap₂ with_subcommand second given.shape in
    let asked = c.in_ok-search_command.ensures in
    let fourth = c.in_ok-subcommand-4.ensures.shape asked.local ∙ ap₂ with_subcommand third asked.shape in
    let made = c.in_ok-drill_command.ensures in
    let fifth = c.in_ok-subcommand-5.ensures.shape made.local ∙ ap₂ with_subcommand fourth made.shape in
    let served = c.in_ok-serve_command.ensures in
    IfOk-weaker c.subcommand-6.result _ _ (λ m added. added.shape served.local ∙ ap₂ with_subcommand fifth served.shape) c.subcommand-6.ensures
