use Rattle.std.proofs.Common.{◌∙◌, ◌||◌, Bool, ap, ap₂}
use Rattle.std.proofs.lemmas.Result.{IfOk-weaker}
use Rattle.clap.specs.Words.{App, with_rule}
use Rattle.command_words.proofs.command.search_command.Goals as goal

pub returns-clause-shape : goal.returns-clause-shape
returns-clause-shape c =
    let app1 = c.in_ok-arg.ensures.shape c.option.ensures.local ∙ ap₂ with_rule c.new.ensures.app c.option.ensures.rule in
    let app2 = c.in_ok-arg-2.ensures.shape c.option-2.ensures.local ∙ ap₂ with_rule app1 c.option-2.ensures.rule in
    let app3 = c.in_ok-arg-3.ensures.shape c.option-3.ensures.local ∙ ap₂ with_rule app2 c.option-3.ensures.rule in
    let app4 = c.in_ok-arg-4.ensures.shape c.option-4.ensures.local ∙ ap₂ with_rule app3 c.option-4.ensures.rule in
    IfOk-weaker c.arg-5.result _ _ (λ m added. ap (λ (a : App). a.top) (added.shape c.query.ensures.local ∙ ap₂ with_rule app4 c.query.ensures.rule)) c.arg-5.ensures

pub returns-clause-local : goal.returns-clause-local
returns-clause-local c =
    let local1 = c.in_ok-arg.ensures.globals ∙ ap₂ (λ (x : Bool) (y : Bool). x || y) c.new.ensures.local c.option.ensures.local in
    let local2 = c.in_ok-arg-2.ensures.globals ∙ ap₂ (λ (x : Bool) (y : Bool). x || y) local1 c.option-2.ensures.local in
    let local3 = c.in_ok-arg-3.ensures.globals ∙ ap₂ (λ (x : Bool) (y : Bool). x || y) local2 c.option-3.ensures.local in
    let local4 = c.in_ok-arg-4.ensures.globals ∙ ap₂ (λ (x : Bool) (y : Bool). x || y) local3 c.option-4.ensures.local in
    IfOk-weaker c.arg-5.result _ _ (λ m added. added.globals ∙ ap₂ (λ (x : Bool) (y : Bool). x || y) local4 c.query.ensures.local) c.arg-5.ensures
