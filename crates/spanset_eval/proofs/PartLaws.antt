-- Parts of a list by values: joining them in any order gives the same, and what they have in the end.
use Rattle.std.proofs.Common.{◌≡◌, ℕ, arith, length, Option, Some, None, reverse, List, [], ◌∷◌, ◌++◌, map, true, false, cond, refl, sym, ap, ◌∙◌, subst, ◌⊎◌, inl, inr, append_assoc}
use Rattle.std.specs.Cmp.{IsTotalOrder}
use Rattle.std.specs.List.{filter}
use Rattle.std.specs.Option.{option_to_list, MatchOption}
use Rattle.traceql_value.proofs.Orders.{value_cmp_total}
use Rattle.std.proofs.lemmas.List.{append-nil, reverse-append}
use Rattle.std.specs.Ordering.{is_eq, is_lt, ordering_reverse}
use Rattle.std.specs.declared.cmp.Ordering.{Ordering}
use Rattle.std.specs.declared.cmp.Ordering.TheVariants.{Less, Equal, Greater}
use Rattle.std.proofs.lemmas.Cmp.{tied_itself}
use Rattle.traceql_value.specs.declared.value.Value.{Value}
use Rattle.traceql_value.specs.Values.{value_cmp}
use Rattle.spanset_eval.specs.declared.groups.Group.{Group}
use Rattle.spanset_eval.specs.Parts.{SplitPart}
use Rattle.spanset_eval.specs.declared.parts.Valued.{Valued}
use Rattle.spanset_eval.specs.Parts.{with_former, part_of, part_at, part_group, insert_part, insert_parts, arranged, Above, Ascend, TakesPart}
use Rattle.spanset_eval.specs.Stages.{occurring, insert_value}

pub three : (o : Ordering) → (o ≡ Less) ⊎ ((o ≡ Equal) ⊎ (o ≡ Greater))
three Less = inl refl
three Equal = inr (inl refl)
three Greater = inr (inr refl)

-- ---- one step of `insert_part`

insert_step : SplitPart → SplitPart → List SplitPart → Ordering → List SplitPart
insert_step p q qs o = cond (is_lt o) (p ∷ q ∷ qs) (cond (is_eq o) (with_former p q ∷ qs) (q ∷ insert_part p qs))

insert_less : (p q : SplitPart) (qs : List SplitPart) → value_cmp p.value q.value ≡ Less → insert_part p (q ∷ qs) ≡ p ∷ q ∷ qs
unfolding insert_step
insert_less p q qs e = ap (insert_step p q qs) e

insert_equal : (p q : SplitPart) (qs : List SplitPart) → value_cmp p.value q.value ≡ Equal → insert_part p (q ∷ qs) ≡ with_former p q ∷ qs
unfolding insert_step
insert_equal p q qs e = ap (insert_step p q qs) e

insert_greater : (p q : SplitPart) (qs : List SplitPart) → value_cmp p.value q.value ≡ Greater → insert_part p (q ∷ qs) ≡ q ∷ insert_part p qs
unfolding insert_step
insert_greater p q qs e = ap (insert_step p q qs) e

-- ---- the order

pub flip_less : IsTotalOrder value_cmp → (v w : Value) → value_cmp v w ≡ Less → value_cmp w v ≡ Greater
flip_less o v w e = o.antisymm w v ∙ ap ordering_reverse e

pub flip_greater : IsTotalOrder value_cmp → (v w : Value) → value_cmp v w ≡ Greater → value_cmp w v ≡ Less
flip_greater o v w e = o.antisymm w v ∙ ap ordering_reverse e

-- ---- inserting in any order

-- Parts of one value may be joined before.
insert_same : IsTotalOrder value_cmp → (p a : SplitPart) → value_cmp p.value a.value ≡ Equal → (rs : List SplitPart) → insert_part p (insert_part a rs) ≡ insert_part (with_former p a) rs
insert_same o p a e [] = insert_equal p a [] e
insert_same o p a e (r ∷ rs) =
    let like : value_cmp p.value r.value ≡ value_cmp a.value r.value = o.congr p.value a.value r.value e in
    elim (three (value_cmp a.value r.value)) as (λ _. insert_part p (insert_part a (r ∷ rs)) ≡ insert_part (with_former p a) (r ∷ rs)) [
      | inl l ↦ ap (insert_part p) (insert_less a r rs l) ∙ insert_equal p a (r ∷ rs) e ∙ sym (insert_less (with_former p a) r rs l)
      | inr m ↦ elim m as (λ _. insert_part p (insert_part a (r ∷ rs)) ≡ insert_part (with_former p a) (r ∷ rs)) [
        | inl q ↦
            ap (insert_part p) (insert_equal a r rs q) ∙ insert_equal p (with_former a r) rs (like ∙ q)
            ∙ ap (λ ms. record { value = r.value; members = ms } ∷ rs) (sym (append_assoc p.members a.members r.members))
            ∙ sym (insert_equal (with_former p a) r rs q)
        | inr g ↦
            ap (insert_part p) (insert_greater a r rs g) ∙ insert_greater p r (insert_part a rs) (like ∙ g)
            ∙ ap (λ xs. r ∷ xs) (insert_same o p a e rs) ∙ sym (insert_greater (with_former p a) r rs g)
      ]
    ]

-- Parts of two values may be inserted in either order.
insert_swapped : IsTotalOrder value_cmp → (a p : SplitPart) → value_cmp a.value p.value ≡ Less → (rs : List SplitPart) → insert_part a (insert_part p rs) ≡ insert_part p (insert_part a rs)
insert_swapped o a p e [] = insert_less a p [] e ∙ sym (insert_greater p a [] (flip_less o a.value p.value e))
insert_swapped o a p e (r ∷ rs) =
    let back : value_cmp p.value a.value ≡ Greater = flip_less o a.value p.value e in
    elim (three (value_cmp p.value r.value)) as (λ _. insert_part a (insert_part p (r ∷ rs)) ≡ insert_part p (insert_part a (r ∷ rs))) [
      | inl l ↦
          let first : value_cmp a.value r.value ≡ Less = o.trans a.value p.value r.value e l in
          ap (insert_part a) (insert_less p r rs l) ∙ insert_less a p (r ∷ rs) e
          ∙ sym (ap (insert_part p) (insert_less a r rs first) ∙ insert_greater p a (r ∷ rs) back ∙ ap (λ xs. a ∷ xs) (insert_less p r rs l))
      | inr m ↦ elim m as (λ _. insert_part a (insert_part p (r ∷ rs)) ≡ insert_part p (insert_part a (r ∷ rs))) [
        | inl q ↦
            let first : value_cmp a.value r.value ≡ Less = alike a.value q in
            ap (insert_part a) (insert_equal p r rs q) ∙ insert_less a (with_former p r) rs first
            ∙ sym (ap (insert_part p) (insert_less a r rs first) ∙ insert_greater p a (r ∷ rs) back ∙ ap (λ xs. a ∷ xs) (insert_equal p r rs q))
        | inr g ↦ ap (insert_part a) (insert_greater p r rs g) ∙ last g (insert_swapped o a p e rs)
      ]
    ]
  where
    alike : (v : Value) → value_cmp p.value r.value ≡ Equal → value_cmp a.value r.value ≡ Less
    alike v q = flip_greater o r.value a.value (sym (o.congr p.value r.value a.value q) ∙ flip_less o a.value p.value e)

    last : value_cmp p.value r.value ≡ Greater → insert_part a (insert_part p rs) ≡ insert_part p (insert_part a rs) → insert_part a (r ∷ insert_part p rs) ≡ insert_part p (insert_part a (r ∷ rs))
    last g behind = elim (three (value_cmp a.value r.value)) as (λ _. insert_part a (r ∷ insert_part p rs) ≡ insert_part p (insert_part a (r ∷ rs))) [
      | inl l ↦
          insert_less a r (insert_part p rs) l
          ∙ sym (ap (insert_part p) (insert_less a r rs l) ∙ insert_greater p a (r ∷ rs) (flip_less o a.value p.value e) ∙ ap (λ xs. a ∷ xs) (insert_greater p r rs g))
      | inr m ↦ elim m as (λ _. insert_part a (r ∷ insert_part p rs) ≡ insert_part p (insert_part a (r ∷ rs))) [
        | inl q ↦ insert_equal a r (insert_part p rs) q ∙ sym (ap (insert_part p) (insert_equal a r rs q) ∙ insert_greater p (with_former a r) rs g)
        | inr h ↦
            insert_greater a r (insert_part p rs) h ∙ ap (λ xs. r ∷ xs) behind
            ∙ sym (ap (insert_part p) (insert_greater a r rs h) ∙ insert_greater p r (insert_part a rs) g)
      ]
    ]

-- A part inserted among some is inserted among all.
insert_parts_insert : IsTotalOrder value_cmp → (p : SplitPart) (ps qs : List SplitPart) → insert_parts (insert_part p ps) qs ≡ insert_part p (insert_parts ps qs)
insert_parts_insert o p [] qs = refl
insert_parts_insert o p (a ∷ ps) qs = elim (three (value_cmp p.value a.value)) as (λ _. insert_parts (insert_part p (a ∷ ps)) qs ≡ insert_part p (insert_parts (a ∷ ps) qs)) [
  | inl l ↦ ap (λ xs. insert_parts xs qs) (insert_less p a ps l)
  | inr m ↦ elim m as (λ _. insert_parts (insert_part p (a ∷ ps)) qs ≡ insert_part p (insert_parts (a ∷ ps) qs)) [
    | inl e ↦ ap (λ xs. insert_parts xs qs) (insert_equal p a ps e) ∙ sym (insert_same o p a e (insert_parts ps qs))
    | inr g ↦
        ap (λ xs. insert_parts xs qs) (insert_greater p a ps g) ∙ ap (insert_part a) (insert_parts_insert o p ps qs)
        ∙ insert_swapped o a p (flip_greater o p.value a.value g) (insert_parts ps qs)
  ]
]

insert_parts_arranged : IsTotalOrder value_cmp → (ps qs : List SplitPart) → insert_parts (arranged ps) qs ≡ insert_parts ps qs
insert_parts_arranged o [] qs = refl
insert_parts_arranged o (p ∷ ps) qs = insert_parts_insert o p (arranged ps) qs ∙ ap (insert_part p) (insert_parts_arranged o ps qs)

insert_parts-append : (ps qs rs : List SplitPart) → insert_parts (ps ++ qs) rs ≡ insert_parts ps (insert_parts qs rs)
insert_parts-append [] qs rs = refl
insert_parts-append (p ∷ ps) qs rs = ap (insert_part p) (insert_parts-append ps qs rs)

-- Two halves may be arranged first.
pub arranged-append : IsTotalOrder value_cmp → (ps qs : List SplitPart) → insert_parts (arranged ps) (arranged qs) ≡ arranged (ps ++ qs)
arranged-append o ps qs = insert_parts_arranged o ps (arranged qs) ∙ sym (insert_parts-append ps qs [])

-- ---- ascending parts

above_put : (v : Value) (p : SplitPart) (ps : List SplitPart) → value_cmp v p.value ≡ Less → Above v ps → Above v (insert_part p ps)
above_put v p [] l all = (l, tt)
above_put v p (q ∷ qs) l all = elim (three (value_cmp p.value q.value)) as (λ _. Above v (insert_part p (q ∷ qs))) [
  | inl e ↦ subst (Above v) (sym (insert_less p q qs e)) (l, all)
  | inr m ↦ elim m as (λ _. Above v (insert_part p (q ∷ qs))) [
    | inl e ↦ subst (Above v) (sym (insert_equal p q qs e)) (all.0, all.1)
    | inr e ↦ subst (Above v) (sym (insert_greater p q qs e)) (all.0, above_put v p qs l all.1)
  ]
]

above_all : (v : Value) (ps qs : List SplitPart) → Above v ps → Above v qs → Above v (insert_parts ps qs)
above_all v [] qs a b = b
above_all v (p ∷ ps) qs a b = above_put v p (insert_parts ps qs) a.0 (above_all v ps qs a.1 b)

above_less : IsTotalOrder value_cmp → (v w : Value) (ps : List SplitPart) → value_cmp v w ≡ Less → Above w ps → Above v ps
above_less o v w [] e a = tt
above_less o v w (p ∷ ps) e a = (o.trans v w p.value e a.0, above_less o v w ps e a.1)

above_equal : IsTotalOrder value_cmp → (v w : Value) (ps : List SplitPart) → value_cmp w v ≡ Equal → Above w ps → Above v ps
above_equal o v w [] e a = tt
above_equal o v w (p ∷ ps) e a = (sym (o.congr w v p.value e) ∙ a.0, above_equal o v w ps e a.1)

ascend_put : IsTotalOrder value_cmp → (p : SplitPart) (ps : List SplitPart) → Ascend ps → Ascend (insert_part p ps)
ascend_put o p [] up = (tt, tt)
ascend_put o p (q ∷ qs) up = elim (three (value_cmp p.value q.value)) as (λ _. Ascend (insert_part p (q ∷ qs))) [
  | inl e ↦ subst Ascend (sym (insert_less p q qs e)) ((e, above_less o p.value q.value qs e up.0), up)
  | inr m ↦ elim m as (λ _. Ascend (insert_part p (q ∷ qs))) [
    | inl e ↦ subst Ascend (sym (insert_equal p q qs e)) (up.0, up.1)
    | inr e ↦ subst Ascend (sym (insert_greater p q qs e)) (above_put q.value p qs (flip_greater o p.value q.value e) up.0, ascend_put o p qs up.1)
  ]
]

pub ascend_arranged : IsTotalOrder value_cmp → (ps : List SplitPart) → Ascend (arranged ps)
ascend_arranged o [] = tt
ascend_arranged o (p ∷ ps) = ascend_put o p (arranged ps) (ascend_arranged o ps)

insert_front : (p : SplitPart) (ps : List SplitPart) → Above p.value ps → insert_part p ps ≡ p ∷ ps
insert_front p [] a = refl
insert_front p (q ∷ qs) a = insert_less p q qs a.0

pub insert_parts_nil : (ps : List SplitPart) → Ascend ps → insert_parts ps [] ≡ ps
insert_parts_nil [] up = refl
insert_parts_nil (p ∷ ps) up = ap (insert_part p) (insert_parts_nil ps up.1) ∙ insert_front p ps up.0

-- The least part goes to the front.
insert_parts_front : IsTotalOrder value_cmp → (b : SplitPart) (ps qs : List SplitPart) → Above b.value ps → insert_parts ps (b ∷ qs) ≡ b ∷ insert_parts ps qs
insert_parts_front o b [] qs a = refl
insert_parts_front o b (p ∷ ps) qs a = ap (insert_part p) (insert_parts_front o b ps qs a.1) ∙ insert_greater p b (insert_parts ps qs) (flip_less o b.value p.value a.0)

-- ---- the steps of a merge

pub takes_left : IsTotalOrder value_cmp → (a b : SplitPart) (ps qs : List SplitPart) → Ascend (a ∷ ps) → Ascend (b ∷ qs) → value_cmp a.value b.value ≡ Less →
    insert_parts (a ∷ ps) (b ∷ qs) ≡ a ∷ insert_parts ps (b ∷ qs)
takes_left o a b ps qs up vp e = insert_front a (insert_parts ps (b ∷ qs)) (above_all a.value ps (b ∷ qs) up.0 (e, above_less o a.value b.value qs e vp.0))

pub takes_right : IsTotalOrder value_cmp → (a b : SplitPart) (ps qs : List SplitPart) → Ascend (a ∷ ps) → value_cmp a.value b.value ≡ Greater →
    insert_parts (a ∷ ps) (b ∷ qs) ≡ b ∷ insert_parts (a ∷ ps) qs
takes_right o a b ps qs up e =
    let less : value_cmp b.value a.value ≡ Less = flip_greater o a.value b.value e in
    insert_parts_front o b (a ∷ ps) qs (less, above_less o b.value a.value ps less up.0)

pub takes_both : IsTotalOrder value_cmp → (a b : SplitPart) (ps qs : List SplitPart) → Ascend (a ∷ ps) → value_cmp a.value b.value ≡ Equal →
    insert_parts (a ∷ ps) (b ∷ qs) ≡ with_former a b ∷ insert_parts ps qs
takes_both o a b ps qs up e =
    ap (insert_part a) (insert_parts_front o b ps qs (above_equal o b.value a.value ps e up.0)) ∙ insert_equal a b (insert_parts ps qs) e

-- ---- what the parts are in the end

abbrev whole_part : (ℕ → Value) → List ℕ → Value → SplitPart
whole_part f ys v = record { value = v; members = filter (λ y. is_eq (value_cmp (f y) v)) ys }

abbrev Differ : Value → List Value → Type 0
Differ v [] = Unit
Differ v (w ∷ ws) = (is_eq (value_cmp w v) ≡ false) × Differ v ws

unfoldable pub step_of : Value → Value → List Value → Ordering → List Value
step_of v w ws o = cond (is_lt o) (v ∷ w ∷ ws) (cond (is_eq o) (w ∷ ws) (w ∷ insert_value v ws))

pub sp_step : (v w : Value) (ws : List Value) (o : Ordering) → value_cmp v w ≡ o → insert_value v (w ∷ ws) ≡ step_of v w ws o
unfolding step_of
sp_step v w ws o e = ap (step_of v w ws) e

-- A value that differs from all that occur differs from each.
differ_insert : IsTotalOrder value_cmp → (v u : Value) (ws : List Value) → Differ v (insert_value u ws) → (is_eq (value_cmp u v) ≡ false) × Differ v ws
unfolding step_of
differ_insert o v u [] d = d
differ_insert o v u (w ∷ ws) d = elim (three (value_cmp u w)) as (λ _. (is_eq (value_cmp u v) ≡ false) × Differ v (w ∷ ws)) [
  | inl e ↦ subst (Differ v) (sp_step u w ws Less e) d
  | inr m ↦ elim m as (λ _. (is_eq (value_cmp u v) ≡ false) × Differ v (w ∷ ws)) [
    | inl e ↦ let d' : Differ v (w ∷ ws) = subst (Differ v) (sp_step u w ws Equal e) d in (ap is_eq (o.congr u w v e) ∙ d'.0, d')
    | inr e ↦
        let d' : Differ v (w ∷ insert_value u ws) = subst (Differ v) (sp_step u w ws Greater e) d in
        let rest = differ_insert o v u ws d'.1 in
        (rest.0, (d'.0, rest.1))
  ]
]

none_alike : IsTotalOrder value_cmp → (f : ℕ → Value) (v : Value) (ys : List ℕ) → Differ v (occurring (map f ys)) → filter (λ y. is_eq (value_cmp (f y) v)) ys ≡ []
none_alike o f v [] d = refl
none_alike o f v (y ∷ ys) d =
    let both = differ_insert o v (f y) (occurring (map f ys)) d in
    ap (λ b. cond b (y ∷ filter (λ z. is_eq (value_cmp (f z) v)) ys) (filter (λ z. is_eq (value_cmp (f z) v)) ys)) both.0 ∙ none_alike o f v ys both.1

-- A position adds nothing to a part of another value.
other_part : (f : ℕ → Value) (y : ℕ) (ys : List ℕ) (w : Value) → is_eq (value_cmp (f y) w) ≡ false → whole_part f (y ∷ ys) w ≡ whole_part f ys w
other_part f y ys w e =
    ap (λ b. record { value = w; members = cond b (y ∷ filter (λ z. is_eq (value_cmp (f z) w)) ys) (filter (λ z. is_eq (value_cmp (f z) w)) ys) }) e

own_part : (f : ℕ → Value) (y : ℕ) (ys : List ℕ) (w : Value) → is_eq (value_cmp (f y) w) ≡ true →
    whole_part f (y ∷ ys) w ≡ record { value = w; members = y ∷ filter (λ z. is_eq (value_cmp (f z) w)) ys }
own_part f y ys w e =
    ap (λ b. record { value = w; members = cond b (y ∷ filter (λ z. is_eq (value_cmp (f z) w)) ys) (filter (λ z. is_eq (value_cmp (f z) w)) ys) }) e

others_same : (f : ℕ → Value) (y : ℕ) (ys : List ℕ) (ws : List Value) → Above (f y) (map (whole_part f ys) ws) → map (whole_part f (y ∷ ys)) ws ≡ map (whole_part f ys) ws
others_same f y ys [] a = refl
others_same f y ys (w ∷ ws) a = let head = other_part f y ys w (ap is_eq a.0) in let rest = others_same f y ys ws a.1 in cc

differ_above : IsTotalOrder value_cmp → (v : Value) (f : ℕ → Value) (ys : List ℕ) (ws : List Value) → Above v (map (whole_part f ys) ws) → Differ v ws
differ_above o v f ys [] a = tt
differ_above o v f ys (w ∷ ws) a = (ap is_eq (flip_less o v w a.0), differ_above o v f ys ws a.1)

new_part : IsTotalOrder value_cmp → (f : ℕ → Value) (y : ℕ) (ys : List ℕ) → filter (λ z. is_eq (value_cmp (f z) (f y))) ys ≡ [] → whole_part f (y ∷ ys) (f y) ≡ part_at f y
new_part o f y ys none = own_part f y ys (f y) (ap is_eq (tied_itself o (f y))) ∙ ap (λ zs. record { value = f y; members = y ∷ zs }) none

insert_whole : IsTotalOrder value_cmp → (f : ℕ → Value) (y : ℕ) (ys : List ℕ) (ws : List Value) → Ascend (map (whole_part f ys) ws) →
    (Differ (f y) ws → filter (λ z. is_eq (value_cmp (f z) (f y))) ys ≡ []) →
    insert_part (part_at f y) (map (whole_part f ys) ws) ≡ map (whole_part f (y ∷ ys)) (insert_value (f y) ws)
unfolding step_of
insert_whole o f y ys [] up none = ap (λ p. p ∷ []) (sym (new_part o f y ys (none tt)))
insert_whole o f y ys (w ∷ ws) up none = elim (three (value_cmp (f y) w)) as (λ _. insert_part (part_at f y) (map (whole_part f ys) (w ∷ ws)) ≡ map (whole_part f (y ∷ ys)) (insert_value (f y) (w ∷ ws))) [
  | inl e ↦
      let above : Above (f y) (map (whole_part f ys) (w ∷ ws)) = (e, above_less o (f y) w (map (whole_part f ys) ws) e up.0) in
      let new = new_part o f y ys (none (differ_above o (f y) f ys (w ∷ ws) above)) in
      let same = others_same f y ys (w ∷ ws) above in
      insert_less (part_at f y) (whole_part f ys w) (map (whole_part f ys) ws) e
      ∙ ap (λ p. p ∷ map (whole_part f ys) (w ∷ ws)) (sym new) ∙ ap (λ ps. whole_part f (y ∷ ys) (f y) ∷ ps) (sym same)
      ∙ ap (map (whole_part f (y ∷ ys))) (sym (sp_step (f y) w ws Less e))
  | inr m ↦ elim m as (λ _. insert_part (part_at f y) (map (whole_part f ys) (w ∷ ws)) ≡ map (whole_part f (y ∷ ys)) (insert_value (f y) (w ∷ ws))) [
    | inl e ↦
        let above : Above (f y) (map (whole_part f ys) ws) = above_equal o (f y) w (map (whole_part f ys) ws) (back_equal e) up.0 in
        insert_equal (part_at f y) (whole_part f ys w) (map (whole_part f ys) ws) e
        ∙ ap (λ p. p ∷ map (whole_part f ys) ws) (sym (own_part f y ys w (ap is_eq e)))
        ∙ ap (λ ps. whole_part f (y ∷ ys) w ∷ ps) (sym (others_same f y ys ws above))
        ∙ ap (map (whole_part f (y ∷ ys))) (sym (sp_step (f y) w ws Equal e))
    | inr e ↦
        insert_greater (part_at f y) (whole_part f ys w) (map (whole_part f ys) ws) e
        ∙ ap (λ ps. whole_part f ys w ∷ ps) (insert_whole o f y ys ws up.1 (λ d. none (ap is_eq (flip_greater o (f y) w e), d)))
        ∙ ap (λ p. p ∷ map (whole_part f (y ∷ ys)) (insert_value (f y) ws)) (sym (other_part f y ys w (ap is_eq e)))
        ∙ ap (map (whole_part f (y ∷ ys))) (sym (sp_step (f y) w ws Greater e))
  ]
]
  where
    back_equal : value_cmp (f y) w ≡ Equal → value_cmp w (f y) ≡ Equal
    back_equal e = o.antisymm w (f y) ∙ ap ordering_reverse e

arranged_whole : IsTotalOrder value_cmp → (f : ℕ → Value) (ys : List ℕ) → arranged (map (part_at f) ys) ≡ map (whole_part f ys) (occurring (map f ys))
arranged_whole o f [] = refl
arranged_whole o f (y ∷ ys) =
    let before = arranged_whole o f ys in
    ap (insert_part (part_at f y)) before
    ∙ insert_whole o f y ys (occurring (map f ys)) (subst Ascend before (ascend_arranged o (map (part_at f) ys))) (none_alike o f (f y) ys)

abbrev pub group_at : (ℕ → Value) → List Value → List ℕ → Value → Group
group_at f by ys v = record { by = by ++ v ∷ []; members = filter (λ y. is_eq (value_cmp (f y) v)) ys }

groups_same : (f : ℕ → Value) (by : List Value) (ys : List ℕ) (ws : List Value) → map (part_group by) (map (whole_part f ys) ws) ≡ map (group_at f by ys) ws
groups_same f by ys [] = refl
groups_same f by ys (w ∷ ws) = ap (λ gs. group_at f by ys w ∷ gs) (groups_same f by ys ws)

-- The parts of a list are the groups of its values.
groups_are : IsTotalOrder value_cmp → (f : ℕ → Value) (by : List Value) (ys : List ℕ) →
    map (part_group by) (arranged (map (part_at f) ys)) ≡ map (group_at f by ys) (occurring (map f ys))
groups_are o f by ys = ap (map (part_group by)) (arranged_whole o f ys) ∙ groups_same f by ys (occurring (map f ys))

-- What the arranged parts of the valued members are as groups.
pub split_is : IsTotalOrder value_cmp → (f : ℕ → Value) (by : List Value) (ys : List ℕ) (vs : List Valued) (ps : List SplitPart) →
    map part_of vs ≡ map (part_at f) ys → ps ≡ arranged (map part_of vs) →
    map (part_group by) ps ≡ map (group_at f by ys) (occurring (map f ys))
split_is o f by ys vs ps is parts =
    ap (map (part_group by)) (parts ∙ ap arranged is) ∙ groups_are o f by ys

-- ---- a step of a merge of two lists that are turned round

Ascend-tail : (p : SplitPart) (ps : List SplitPart) → Ascend (p ∷ ps) → Ascend ps
Ascend-tail p ps h = h.1

pub takes_former : (a b : SplitPart) (ps qs : List SplitPart) → Ascend (a ∷ ps) → Ascend (b ∷ qs) → value_cmp a.value b.value ≡ Less → IsTotalOrder value_cmp →
    TakesPart (a ∷ ps) (b ∷ qs) (Some a) ps (b ∷ qs)
takes_former a b ps qs up vp e o = record { left_up = up.1; right_up = vp; all = takes_left o a b ps qs up vp e }

pub takes_latter : (a b : SplitPart) (ps qs : List SplitPart) → Ascend (a ∷ ps) → Ascend (b ∷ qs) → value_cmp a.value b.value ≡ Greater → IsTotalOrder value_cmp →
    TakesPart (a ∷ ps) (b ∷ qs) (Some b) (a ∷ ps) qs
takes_latter a b ps qs up vp e o = record { left_up = up; right_up = vp.1; all = takes_right o a b ps qs up e }

pub takes_joined : (a b : SplitPart) (ps qs : List SplitPart) → Ascend (a ∷ ps) → Ascend (b ∷ qs) → value_cmp a.value b.value ≡ Equal → IsTotalOrder value_cmp →
    TakesPart (a ∷ ps) (b ∷ qs) (Some (with_former a b)) ps qs
takes_joined a b ps qs up vp e o = record { left_up = up.1; right_up = vp.1; all = takes_both o a b ps qs up e }

-- where one list is empty
pub takes_rest : (ls rs ls' rs' : List SplitPart) (r : Option SplitPart) → ls ≡ [] → ls' ≡ [] → rs ≡ option_to_list r ++ rs' → Ascend rs → TakesPart ls rs r ls' rs'
takes_rest ls rs ls' rs' r el el' er up = record {
  left_up = subst Ascend (sym el') tt;
  right_up = behind r (subst Ascend er up);
  all = ap (λ xs. insert_parts xs rs) el ∙ er ∙ ap (λ xs. option_to_list r ++ insert_parts xs rs') (sym el');
}
  where
    behind : (o : Option SplitPart) → Ascend (option_to_list o ++ rs') → Ascend rs'
    behind None h = h
    behind (Some p) h = h.1

pub takes_first : (ls rs ls' rs' : List SplitPart) (r : Option SplitPart) → rs ≡ [] → rs' ≡ [] → ls ≡ option_to_list r ++ ls' → Ascend ls → TakesPart ls rs r ls' rs'
takes_first ls rs ls' rs' r er er' el up = record {
  left_up = behind;
  right_up = subst Ascend (sym er') tt;
  all = ap (insert_parts ls) er ∙ insert_parts_nil ls up ∙ el ∙ ap (λ xs. option_to_list r ++ xs) (sym (insert_parts_nil ls' behind)) ∙ ap (λ xs. option_to_list r ++ insert_parts ls' xs) (sym er');
}
  where
    after : (o : Option SplitPart) → Ascend (option_to_list o ++ ls') → Ascend ls'
    after None h = h
    after (Some p) h = h.1

    behind : Ascend ls'
    behind = after r (subst Ascend el up)

-- A list turned round begins with what was its end.
pub turned : (xs ys : List SplitPart) (r : Option SplitPart) → xs ≡ ys ++ option_to_list r → reverse xs ≡ option_to_list r ++ reverse ys
turned xs ys None e = ap reverse (e ∙ append-nil ys)
turned xs ys (Some p) e = ap reverse e ∙ reverse-append ys (p ∷ [])

-- ---- the arms of a step, over lists that are turned round

pub less_arm : (lo ro l r ro' : List SplitPart) (a b : SplitPart) → lo ≡ l ++ a ∷ [] → ro ≡ r ++ b ∷ [] → ro' ≡ r ++ b ∷ [] → Ascend (reverse lo) → Ascend (reverse ro) →
    value_cmp a.value b.value ≡ Less → TakesPart (reverse lo) (reverse ro) (Some a) (reverse l) (reverse ro')
less_arm lo ro l r ro' a b el er er' ul ur e =
    let tl : reverse lo ≡ a ∷ reverse l = turned lo l (Some a) el in
    let tr : reverse ro ≡ b ∷ reverse r = turned ro r (Some b) er in
    let tr' : reverse ro' ≡ b ∷ reverse r = turned ro' r (Some b) er' in
    subst (λ x. TakesPart x (reverse ro) (Some a) (reverse l) (reverse ro')) (sym tl)
    (subst (λ y. TakesPart (a ∷ reverse l) y (Some a) (reverse l) (reverse ro')) (sym tr)
    (subst (λ z. TakesPart (a ∷ reverse l) (b ∷ reverse r) (Some a) (reverse l) z) (sym tr')
    (takes_former a b (reverse l) (reverse r) (subst Ascend tl ul) (subst Ascend tr ur) e value_cmp_total)))

pub greater_arm : (lo ro l r lo' : List SplitPart) (a b : SplitPart) → lo ≡ l ++ a ∷ [] → ro ≡ r ++ b ∷ [] → lo' ≡ l ++ a ∷ [] → Ascend (reverse lo) → Ascend (reverse ro) →
    value_cmp a.value b.value ≡ Greater → TakesPart (reverse lo) (reverse ro) (Some b) (reverse lo') (reverse r)
greater_arm lo ro l r lo' a b el er el' ul ur e =
    let tl : reverse lo ≡ a ∷ reverse l = turned lo l (Some a) el in
    let tr : reverse ro ≡ b ∷ reverse r = turned ro r (Some b) er in
    let tl' : reverse lo' ≡ a ∷ reverse l = turned lo' l (Some a) el' in
    subst (λ x. TakesPart x (reverse ro) (Some b) (reverse lo') (reverse r)) (sym tl)
    (subst (λ y. TakesPart (a ∷ reverse l) y (Some b) (reverse lo') (reverse r)) (sym tr)
    (subst (λ z. TakesPart (a ∷ reverse l) (b ∷ reverse r) (Some b) z (reverse r)) (sym tl')
    (takes_latter a b (reverse l) (reverse r) (subst Ascend tl ul) (subst Ascend tr ur) e value_cmp_total)))

pub equal_arm : (lo ro l r : List SplitPart) (a b p : SplitPart) → lo ≡ l ++ a ∷ [] → ro ≡ r ++ b ∷ [] → p ≡ with_former a b → Ascend (reverse lo) → Ascend (reverse ro) →
    value_cmp a.value b.value ≡ Equal → TakesPart (reverse lo) (reverse ro) (Some p) (reverse l) (reverse r)
equal_arm lo ro l r a b p el er ep ul ur e =
    let tl : reverse lo ≡ a ∷ reverse l = turned lo l (Some a) el in
    let tr : reverse ro ≡ b ∷ reverse r = turned ro r (Some b) er in
    subst (λ x. TakesPart x (reverse ro) (Some p) (reverse l) (reverse r)) (sym tl)
    (subst (λ y. TakesPart (a ∷ reverse l) y (Some p) (reverse l) (reverse r)) (sym tr)
    (subst (λ q. TakesPart (a ∷ reverse l) (b ∷ reverse r) (Some q) (reverse l) (reverse r)) (sym ep)
    (takes_joined a b (reverse l) (reverse r) (subst Ascend tl ul) (subst Ascend tr ur) e value_cmp_total)))

nil_of : (xs : List SplitPart) → length xs ≡ 0 → xs ≡ []
nil_of [] e = refl
nil_of (x ∷ xs) e = absurd (omega arith)

-- where the right list is empty
pub first_arm : (lo ro l r : List SplitPart) (found next : Option SplitPart) → lo ≡ l ++ option_to_list found → length ro ≡ 0 → length r ≡ 0 → found ≡ next → Ascend (reverse lo) →
    TakesPart (reverse lo) (reverse ro) next (reverse l) (reverse r)
first_arm lo ro l r found next el er er' same ul =
    subst (λ o. TakesPart (reverse lo) (reverse ro) o (reverse l) (reverse r)) same
    (takes_first (reverse lo) (reverse ro) (reverse l) (reverse r) found (ap reverse (nil_of ro er)) (ap reverse (nil_of r er')) (turned lo l found el) ul)

pub at_none : (o : Option SplitPart) (P : Type 0) (Q : SplitPart → Type 0) → o ≡ None → MatchOption o P Q → P
at_none None P Q e h = h
at_none (Some x) P Q e h = cc
