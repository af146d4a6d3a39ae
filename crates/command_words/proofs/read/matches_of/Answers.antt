use Rattle.std.proofs.Common.{◌≡◌, ◌∙◌, [], ◌∷◌, true, ap, inl, inr, map, refl, string_bytes, sym}
use Rattle.clap.specs.Words.{App, HasKind, Kinds, app_of, fault_of, is_simple, is_simple_and_free, kind_of, subcommand_of}
use Rattle.clap.specs.declared.error.Error.{Error}
use Rattle.clap.specs.declared.error.kind.ErrorKind.TheVariants.{OutOfMemory}
use Rattle.clap.proofs.OnLiterals.{clap_on_literals}
use Rattle.command_words.specs.Table.{words_app}
use Rattle.command_words.proofs.read.matches_of.Goals as goal

is_free : is_simple_and_free words_app ≡ true
unfolding words_app clap_on_literals
is_free = refl

is_plain : is_simple words_app ≡ true
unfolding words_app clap_on_literals
is_plain = refl

only_memory : (kinds : Kinds) (e : Error) → HasKind kinds e → kinds ≡ [] → kind_of e ≡ OutOfMemory
only_memory [] e (inl memory) none = memory
only_memory [] e (inr among) none = absurd among
only_memory (k ∷ ks) e has none = let bad : ⊥ = cc in absurd bad

pub returns-in-Ok-try_get_matches_from-clause-no_fault : goal.returns-in-Ok-try_get_matches_from-clause-no_fault
returns-in-Ok-try_get_matches_from-clause-no_fault c =
    let app_is : app_of c.in-Ok.command ≡ words_app = c.in-Ok.ensures in
    ap (λ (a : App). fault_of a (map string_bytes c.args.words.now)) (sym app_is)
    ∙ c.in-Ok-try_get_matches_from.ensures.kinds (ap is_simple_and_free app_is ∙ is_free)

pub returns-in-Ok-try_get_matches_from-clause-found : goal.returns-in-Ok-try_get_matches_from-clause-found
returns-in-Ok-try_get_matches_from-clause-found c =
    let app_is : app_of c.in-Ok.command ≡ words_app = c.in-Ok.ensures in
    (c.in-Ok-try_get_matches_from.ensures.matches (ap is_simple app_is ∙ is_plain)).1
    ∙ ap (λ (a : App). subcommand_of a (map string_bytes c.args.words.now)) app_is

pub returns-in-Err-clause-refused : goal.returns-in-Err-clause-refused
returns-in-Err-clause-refused c refused clean =
    let app_is : app_of c.in-Ok.command ≡ words_app = c.in-Ok.ensures in
    let has = c.in-Err.ensures.kinds (ap is_simple_and_free app_is ∙ is_free) in
    let none = ap (λ (a : App). fault_of a (map string_bytes c.args.words.now)) app_is ∙ clean in
    let memory = c.cause_of.ensures.memory (only_memory _ c.in-Err.error has none) in
    cc
