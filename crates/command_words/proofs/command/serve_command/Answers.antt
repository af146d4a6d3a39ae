use Rattle.std.proofs.Common.{◌∙◌, ◌||◌, Bool, ap, ap₂}
use Rattle.std.proofs.lemmas.Result.{IfOk-weaker}
use Rattle.clap.specs.Words.{App, with_rule}
use Rattle.command_words.proofs.command.serve_command.Goals as goal

pub returns-clause-shape : goal.returns-clause-shape
returns-clause-shape c =
    let app1 = c.in_ok-arg.ensures.shape c.wanted_option.ensures.local ∙ ap₂ with_rule c.new.ensures.app c.wanted_option.ensures.rule in
    IfOk-weaker c.arg-2.result _ _ (λ m added. ap (λ (a : App). a.top) (added.shape c.option.ensures.local ∙ ap₂ with_rule app1 c.option.ensures.rule)) c.arg-2.ensures

pub returns-clause-local : goal.returns-clause-local
returns-clause-local c =
    let local1 = c.in_ok-arg.ensures.globals ∙ ap₂ (λ (x : Bool) (y : Bool). x || y) c.new.ensures.local c.wanted_option.ensures.local in
    IfOk-weaker c.arg-2.result _ _ (λ m added. added.globals ∙ ap₂ (λ (x : Bool) (y : Bool). x || y) local1 c.option.ensures.local) c.arg-2.ensures
