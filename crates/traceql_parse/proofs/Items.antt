-- Items after a head: one turn of the loop.
use Rattle.std.proofs.Common.{◌≡◌, ℕ, zero, suc, ◌<◌, ◌≤◌, Bool, true, false, List, [], ◌∷◌, length, Ok, Err, refl, sym, ◌∙◌, ap, arith}
use Rattle.traceql_tokens.specs.declared.kinds.Token.{Token}
use Rattle.traceql_parse.specs.declared.stop.Cause.{Cause}
use Rattle.traceql_parse.specs.Reading.{Answer, ◌>>=◌, turns, items}

-- whatever it reads, it takes a token at least
abbrev pub Shrinks : {B : Type 0} → (List Token → Answer B) → Type 0
Shrinks {B} item = (ts : List Token) (x : B × List Token) → item ts ≡ Ok x → length x.1 < length ts

module _ {A B : Type 0} (goes : List Token → Bool) (item : List Token → Answer B) (join : A → B → A) where
  pub turns_stop : (n : ℕ) (a : A) (ts : List Token) → goes ts ≡ false → turns goes item join n a ts ≡ Ok (a, ts)
  turns_stop zero a ts e = refl
  turns_stop (suc n) a ts e = rw (e, turns) refl

  pub turns_on : (n : ℕ) (a : A) (ts : List Token) (r : Answer B) → goes ts ≡ true → item ts ≡ r → turns goes item join (suc n) a ts ≡ (r >>= λ x. turns goes item join n (join a x.0) x.1)
  turns_on n a ts r e h = rw (e, turns) (ap (λ (z : Answer B). z >>= λ x. turns goes item join n (join a x.0) x.1) h)

  -- the same turns with more fuel, after a first item
  step : (m n : ℕ) (a : A) (ts : List Token) → ((a : A) (rest : List Token) → length rest < length ts → turns goes item join m a rest ≡ turns goes item join n a rest) → Shrinks item → (r : Answer B) → item ts ≡ r → (r >>= λ x. turns goes item join m (join a x.0) x.1) ≡ (r >>= λ x. turns goes item join n (join a x.0) x.1)
  step m n a ts same shrinks (Ok x) e = same (join a x.0) x.1 (shrinks ts x e)
  step m n a ts same shrinks (Err d) e = refl

  by_test : (m n : ℕ) (a : A) (ts : List Token) → ((a : A) (rest : List Token) → length rest < length ts → turns goes item join m a rest ≡ turns goes item join n a rest) → Shrinks item → (b : Bool) → goes ts ≡ b → turns goes item join (suc m) a ts ≡ turns goes item join (suc n) a ts
  by_test m n a ts same shrinks true e = turns_on m a ts (item ts) e refl ∙ step m n a ts same shrinks (item ts) refl ∙ sym (turns_on n a ts (item ts) e refl)
  by_test m n a ts same shrinks false e = turns_stop (suc m) a ts e ∙ sym (turns_stop (suc n) a ts e)

  turns_same : goes [] ≡ false → Shrinks item → (m n : ℕ) (a : A) (ts : List Token) → length ts ≤ m → length ts ≤ n → turns goes item join m a ts ≡ turns goes item join n a ts
  turns_same none shrinks m n a [] h k = turns_stop m a [] none ∙ sym (turns_stop n a [] none)
  turns_same none shrinks zero n a (t ∷ ts) h k = absurd (omega arith)
  turns_same none shrinks (suc m) zero a (t ∷ ts) h k = absurd (omega arith)
  turns_same none shrinks (suc m) (suc n) a (t ∷ ts) h k =
      by_test m n a (t ∷ ts) (λ b rest less. turns_same none shrinks m n b rest (omega arith) (omega arith)) shrinks (goes (t ∷ ts)) refl

  pub items_stop : (a : A) (ts : List Token) → goes ts ≡ false → items goes item join a ts ≡ Ok (a, ts)
  unfolding items
  items_stop a ts e = turns_stop (length ts) a ts e

  pub items_fail : goes [] ≡ false → (a : A) (ts : List Token) (d : Cause × List Token) → goes ts ≡ true → item ts ≡ Err d → items goes item join a ts ≡ Err d
  unfolding items
  items_fail none a [] d e h = cc
  items_fail none a (t ∷ ts) d e h = turns_on (length ts) a (t ∷ ts) (Err d) e h

  pub items_step : goes [] ≡ false → Shrinks item → (a : A) (ts : List Token) (x : B × List Token) → goes ts ≡ true → item ts ≡ Ok x → items goes item join a ts ≡ items goes item join (join a x.0) x.1
  unfolding items
  items_step none shrinks a [] x e h = cc
  items_step none shrinks a (t ∷ ts) x e h =
      let less : length x.1 < suc (length ts) = shrinks (t ∷ ts) x h in
      turns_on (length ts) a (t ∷ ts) (Ok x) e h ∙ turns_same none shrinks (length ts) (length x.1) (join a x.0) x.1 (omega arith) (omega arith)
