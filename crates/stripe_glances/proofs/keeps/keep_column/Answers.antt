use Rattle.std.proofs.Common.{◌≡◌, [], ◌∷◌, ◌++◌, List, sym, ◌∙◌, ap, arith}
use Rattle.stripe_glances.proofs.LandLaws.{comes_first, comes_last, comes_more}
use Rattle.stripe_glances.proofs.keeps.keep_column.Goals as goal

-- one more value
more_kept : {A : Type 0} (values new : List A) (value : A) → new ≡ values ++ value ∷ [] → (before : List A) (x : A) → before ≡ values → x ≡ value → before ++ x ∷ [] ≡ new
more_kept {A} values new value is before x same one = ap (λ (l : List A). l ++ x ∷ []) same ∙ ap (λ (y : A). values ++ y ∷ []) one ∙ sym is

pub loop-init : goal.loop-init
loop-init g c = comes_first (λ before. before ≡ c.in-Ok.values.items) (λ _. g.K.Keep.reading c.args.kind.now) c.args.count _ c.args.reader.now (omega arith) (sym c.in-Ok.ensures.items)

pub loop-preserved : goal.loop-preserved
loop-preserved g c =
    comes_more c.args.count c.loop.counter c.keep.new.reader c.loop-test.true c.loop.invariant (more_kept c.loop.values.items _ c.in_ok-value.value c.in-Ok-push.ensures.items) (λ before. c.in_ok-value.ensures)

pub returns : goal.returns
returns g c = comes_last c.args.count c.loop.counter c.loop-test.false c.loop.invariant
