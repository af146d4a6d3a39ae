-- What is written down to keep a store up.
use Rattle.std.proofs.Common.{◌≡◌, ◌∙◌, ℕ, zero, suc, ◌+◌, ◌*◌, List, [], ◌∷◌, ◌++◌, Option, Ok, ap, append_assoc, arith, refl, subst}
use Rattle.session_text.specs.declared.request.Request.TheVariants.{Compact, Cut, Flush, Reclaim}
use Rattle.session_text.specs.Items.{Item}
use Rattle.session_meaning.specs.Asked.{IsNextMoment, after_moment}
use Rattle.session_meaning.specs.Serving.{AreCuts, after_moments, compactions}

-- ---- the clock

-- One more moment is asked for.
pub after_more : (n : ℕ) (told : Option (List ℕ)) → after_moment (after_moments n told) ≡ after_moments (n + 1) told
after_more zero told = refl
after_more (suc n) told =
    let next : suc (n + 1) ≡ suc n + 1 = omega arith in
    after_more n (after_moment told) ∙ ap (λ (k : ℕ). after_moments k told) next

-- Two more are.
pub after_two : (n : ℕ) (told now : Option (List ℕ)) → now ≡ after_moments (2 * n) told → after_moment (after_moment now) ≡ after_moments (2 * (n + 1)) told
after_two n told now is =
    let as_many : (2 * n + 1) + 1 ≡ 2 * (n + 1) = omega arith in
    ap (λ (o : Option (List ℕ)). after_moment (after_moment o)) is
    ∙ ap after_moment (after_more (2 * n) told)
    ∙ after_more (2 * n + 1) told
    ∙ ap (λ (k : ℕ). after_moments k told) as_many

after_sum : (a b : ℕ) (told : Option (List ℕ)) → after_moments a (after_moments b told) ≡ after_moments (b + a) told
after_sum a zero told = let none : a ≡ zero + a = omega arith in ap (λ (k : ℕ). after_moments k told) none
after_sum a (suc b) told =
    let more : suc (b + a) ≡ suc b + a = omega arith in
    after_sum a b (after_moment told) ∙ ap (λ (k : ℕ). after_moments k told) more

-- Both scripts take four moments a round.
pub after_both : (rounds : ℕ) (told between now : Option (List ℕ)) → between ≡ after_moments (2 * rounds) told → now ≡ after_moments (2 * rounds) between → now ≡ after_moments (4 * rounds) told
after_both rounds told between now first second =
    let sum : 2 * rounds + 2 * rounds ≡ 4 * rounds = omega arith in
    second
    ∙ ap (after_moments (2 * rounds)) first
    ∙ after_sum (2 * rounds) (2 * rounds) told
    ∙ ap (λ (k : ℕ). after_moments k told) sum

-- ---- the requests

-- A round more of cuts and flushes.
pub cuts_more : (n : ℕ) (told : Option (List ℕ)) (items : List Item) (moment : ℕ) → AreCuts n told items → IsNextMoment (after_moments (2 * n) told) moment
    → AreCuts (n + 1) told (items ++ Ok (Cut moment) ∷ Ok Flush ∷ [])
cuts_more zero told items moment none next = rw none (moment, [], next, refl, refl)
cuts_more (suc n) told items moment (first, later, at_first, is, rest) next =
    let more : suc (n + 1) ≡ suc n + 1 = omega arith in
    let two : 2 * suc n ≡ suc (suc (2 * n)) = omega arith in
    subst (λ (k : ℕ). AreCuts k told (items ++ Ok (Cut moment) ∷ Ok Flush ∷ [])) more (
      first,
      later ++ Ok (Cut moment) ∷ Ok Flush ∷ [],
      at_first,
      ap (λ (xs : List Item). xs ++ Ok (Cut moment) ∷ Ok Flush ∷ []) is,
      cuts_more n (after_moment (after_moment told)) later moment rest (subst (λ (k : ℕ). IsNextMoment (after_moments k told) moment) two next),
    )

-- A round more of compactions.
pub compactions_more : (n : ℕ) → compactions (n + 1) ≡ compactions n ++ Ok Compact ∷ Ok Reclaim ∷ []
compactions_more zero = refl
compactions_more (suc n) =
    let more : suc n + 1 ≡ suc (n + 1) = omega arith in
    ap compactions more ∙ ap (λ (xs : List Item). Ok Compact ∷ Ok Reclaim ∷ xs) (compactions_more n)

-- Two requests were put after others.
pub put_both : (old between new : List Item) (one two : Item) → between ≡ old ++ one ∷ [] → new ≡ between ++ two ∷ [] → new ≡ old ++ one ∷ two ∷ []
put_both old between new one two first second = second ∙ ap (λ (xs : List Item). xs ++ two ∷ []) first ∙ append_assoc old (one ∷ []) (two ∷ [])
