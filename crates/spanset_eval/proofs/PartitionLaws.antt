-- The values that occur, and the spansets that they make.
use Rattle.std.proofs.Common.{◌≡◌, ℕ, zero, suc, ◌<◌, List, [], ◌∷◌, ◌++◌, map, Contains, Bool, true, false, Option, Some, None, refl, sym, ap, ◌∙◌, subst, ◌⊎◌, inl, inr, arith, slice_get}
use Rattle.std.specs.Cmp.{IsTotalOrder}
use Rattle.std.specs.List.{filter}
use Rattle.std.specs.Ordering.{is_eq}
use Rattle.std.specs.declared.cmp.Ordering.{Ordering}
use Rattle.std.specs.declared.cmp.Ordering.TheVariants.{Less, Equal, Greater}
use Rattle.std.proofs.lemmas.Cmp.{tied_itself}
use Rattle.std.proofs.lemmas.Option.{same_Some}
use Rattle.traceql_value.specs.declared.value.Value.{Value}
use Rattle.traceql_value.specs.Values.{value_cmp}
use Rattle.spanset_eval.specs.declared.groups.Group.{Group}
use Rattle.spanset_eval.specs.Laws.{IsInJust, IsSplitOff, IsPartition}
use Rattle.spanset_eval.specs.Stages.{occurring, insert_value}
use Rattle.spanset_eval.proofs.Membership.{In, in_of, of_in, map_in, in_map, in_filter, filter_in}
use Rattle.spanset_eval.proofs.PartLaws.{three, flip_less, flip_greater, group_at, step_of, sp_step}

-- ---- `insert_value`, by the order of the values

insert_less : (v w : Value) (ws : List Value) → value_cmp v w ≡ Less → insert_value v (w ∷ ws) ≡ v ∷ w ∷ ws
unfolding step_of
insert_less v w ws e = sp_step v w ws Less e

insert_equal : (v w : Value) (ws : List Value) → value_cmp v w ≡ Equal → insert_value v (w ∷ ws) ≡ w ∷ ws
unfolding step_of
insert_equal v w ws e = sp_step v w ws Equal e

insert_greater : (v w : Value) (ws : List Value) → value_cmp v w ≡ Greater → insert_value v (w ∷ ws) ≡ w ∷ insert_value v ws
unfolding step_of
insert_greater v w ws e = sp_step v w ws Greater e

-- what holds of all three holds
insert_cases : (P : List Value → Type 0) (v w : Value) (ws : List Value) → (value_cmp v w ≡ Less → P (v ∷ w ∷ ws)) → (value_cmp v w ≡ Equal → P (w ∷ ws)) → (value_cmp v w ≡ Greater → P (w ∷ insert_value v ws)) → P (insert_value v (w ∷ ws))
insert_cases P v w ws l q g = elim (three (value_cmp v w)) as (λ _. P (insert_value v (w ∷ ws))) [
  | inl e ↦ subst P (sym (insert_less v w ws e)) (l e)
  | inr m ↦ elim m as (λ _. P (insert_value v (w ∷ ws))) [ inl e ↦ subst P (sym (insert_equal v w ws e)) (q e) | inr e ↦ subst P (sym (insert_greater v w ws e)) (g e) ]
]

-- ---- the values that occur ascend

abbrev LessAll : Value → List Value → Type 0
LessAll v [] = Unit
LessAll v (w ∷ ws) = (value_cmp v w ≡ Less) × LessAll v ws

abbrev Rising : List Value → Type 0
Rising [] = Unit
Rising (v ∷ vs) = LessAll v vs × Rising vs

less_all_less : IsTotalOrder value_cmp → (u v : Value) (ws : List Value) → value_cmp u v ≡ Less → LessAll v ws → LessAll u ws
less_all_less o u v [] e a = tt
less_all_less o u v (w ∷ ws) e a = (o.trans u v w e a.0, less_all_less o u v ws e a.1)

less_all_insert : (u v : Value) (ws : List Value) → value_cmp u v ≡ Less → LessAll u ws → LessAll u (insert_value v ws)
less_all_insert u v [] e a = (e, tt)
less_all_insert u v (w ∷ ws) e a = insert_cases (LessAll u) v w ws (λ l. (e, a)) (λ q. a) (λ g. (a.0, less_all_insert u v ws e a.1))

insert_rises : IsTotalOrder value_cmp → (v : Value) (ws : List Value) → Rising ws → Rising (insert_value v ws)
insert_rises o v [] up = (tt, tt)
insert_rises o v (w ∷ ws) up =
    insert_cases Rising v w ws (λ l. ((l, less_all_less o v w ws l up.0), up)) (λ q. up) (λ g. (less_all_insert w v ws (flip_greater o v w g) up.0, insert_rises o v ws up.1))

occurring_rises : IsTotalOrder value_cmp → (vs : List Value) → Rising (occurring vs)
occurring_rises o [] = tt
occurring_rises o (v ∷ vs) = insert_rises o v (occurring vs) (occurring_rises o vs)

less_all_in : (v w : Value) (ws : List Value) → LessAll v ws → In w ws → value_cmp v w ≡ Less
less_all_in v w [] a h = absurd h
less_all_in v w (u ∷ ws) a h = elim h as (λ _. value_cmp v w ≡ Less) [ inl e ↦ subst (λ z. value_cmp v z ≡ Less) e a.0 | inr m ↦ less_all_in v w ws a.1 m ]

-- Of equal values one is there.
rising_once : IsTotalOrder value_cmp → (vs : List Value) (u w : Value) → Rising vs → In u vs → In w vs → value_cmp u w ≡ Equal → u ≡ w
rising_once o [] u w up a b e = absurd a
rising_once o (v ∷ vs) u w up a b e = elim a as (λ _. u ≡ w) [
  | inl s ↦ elim b as (λ _. u ≡ w) [
    | inl t ↦ sym s ∙ t
    | inr m ↦ let l : value_cmp u w ≡ Less = subst (λ z. value_cmp z w ≡ Less) s (less_all_in v w vs up.0 m) in let clash : Less ≡ Equal = sym l ∙ e in cc
  ]
  | inr n ↦ elim b as (λ _. u ≡ w) [
    | inl t ↦
        let g : value_cmp u w ≡ Greater = flip_less o w u (subst (λ z. value_cmp z u ≡ Less) t (less_all_in v u vs up.0 n)) in
        let clash : Greater ≡ Equal = sym g ∙ e in cc
    | inr m ↦ rising_once o vs u w up.1 n m e
  ]
]

-- An earlier one is less.
rising_less : (vs : List Value) (i j : ℕ) (u w : Value) → Rising vs → i < j → slice_get vs i ≡ Some u → slice_get vs j ≡ Some w → value_cmp u w ≡ Less
rising_less [] i j u w up l a b = cc
rising_less (v ∷ vs) i zero u w up l a b = absurd (omega arith)
rising_less (v ∷ vs) zero (suc j) u w up l a b = less_all_in u w vs (subst (λ z. LessAll z vs) (same_Some v u a) up.0) (get_in vs j w b)
  where
    get_in : (ws : List Value) (k : ℕ) (x : Value) → slice_get ws k ≡ Some x → In x ws
    get_in [] k x e = cc
    get_in (y ∷ ws) zero x e = inl (same_Some y x e)
    get_in (y ∷ ws) (suc k) x e = inr (get_in ws k x e)
rising_less (v ∷ vs) (suc i) (suc j) u w up l a b = rising_less vs i j u w up.1 (omega arith) a b

-- ---- which values occur

insert_has : IsTotalOrder value_cmp → (v : Value) (ws : List Value) → (w : Value) × In w (insert_value v ws) × (value_cmp v w ≡ Equal)
insert_has o v [] = (v, inl refl, tied_itself o v)
insert_has o v (w ∷ ws) = insert_cases (λ xs. (x : Value) × In x xs × (value_cmp v x ≡ Equal)) v w ws (λ l. (v, inl refl, tied_itself o v)) (λ q. (w, inl refl, q))
    (λ g. let h = insert_has o v ws in (h.0, inr h.1, h.2))

insert_more : (v x : Value) (ws : List Value) → In x ws → In x (insert_value v ws)
insert_more v x [] h = absurd h
insert_more v x (w ∷ ws) h = insert_cases (In x) v w ws (λ l. inr h) (λ q. h)
    (λ g. elim h as (λ _. In x (w ∷ insert_value v ws)) [ inl e ↦ inl e | inr m ↦ inr (insert_more v x ws m) ])

insert_from : (v x : Value) (ws : List Value) → In x (insert_value v ws) → (v ≡ x) ⊎ In x ws
insert_from v x [] h = h
insert_from v x (w ∷ ws) here = insert_cases (λ xs. In x xs → (v ≡ x) ⊎ In x (w ∷ ws)) v w ws (λ l h. h) (λ q h. inr h)
    (λ g h. elim h as (λ _. (v ≡ x) ⊎ In x (w ∷ ws)) [
      | inl e ↦ inr (inl e)
      | inr m ↦ elim (insert_from v x ws m) as (λ _. (v ≡ x) ⊎ In x (w ∷ ws)) [ inl e ↦ inl e | inr n ↦ inr (inr n) ]
    ]) here

occurring_has : IsTotalOrder value_cmp → (vs : List Value) (v : Value) → In v vs → (w : Value) × In w (occurring vs) × (value_cmp v w ≡ Equal)
occurring_has o [] v h = absurd h
occurring_has o (u ∷ vs) v h = elim h as (λ _. (w : Value) × In w (occurring (u ∷ vs)) × (value_cmp v w ≡ Equal)) [
  | inl e ↦ let p = insert_has o u (occurring vs) in (p.0, p.1, subst (λ z. value_cmp z p.0 ≡ Equal) e p.2)
  | inr m ↦ let p = occurring_has o vs v m in (p.0, insert_more u p.0 (occurring vs) p.1, p.2)
]

occurring_from : (vs : List Value) (v : Value) → In v (occurring vs) → In v vs
occurring_from [] v h = absurd h
occurring_from (u ∷ vs) v h = elim (insert_from u v (occurring vs) h) as (λ _. In v (u ∷ vs)) [ inl e ↦ inl e | inr m ↦ inr (occurring_from vs v m) ]

-- ---- the spansets

equal_of : (o : Ordering) → is_eq o ≡ true → o ≡ Equal
equal_of Less e = cc
equal_of Equal e = refl
equal_of Greater e = cc

equals_of : (f : ℕ → Value) (by : List Value) (ys : List ℕ) (v : Value) (y : ℕ) → In y (group_at f by ys v).members → (value_cmp (f y) v ≡ Equal) × In y ys
equals_of f by ys v y h = let w = in_filter (λ z. is_eq (value_cmp (f z) v)) ys y h in (equal_of (value_cmp (f y) v) w.0, w.1)

member_of : (f : ℕ → Value) (by : List Value) (ys : List ℕ) (v : Value) (y : ℕ) → value_cmp (f y) v ≡ Equal → In y ys → In y (group_at f by ys v).members
member_of f by ys v y e h = filter_in (λ z. is_eq (value_cmp (f z) v)) ys y (ap is_eq e) h

map_get : {X Y : Type 0} (f : X → Y) (xs : List X) (i : ℕ) (y : Y) → slice_get (map f xs) i ≡ Some y → (x : X) × (slice_get xs i ≡ Some x) × (f x ≡ y)
map_get f [] i y e = cc
map_get f (x ∷ xs) zero y e = (x, refl, same_Some (f x) y e)
map_get f (x ∷ xs) (suc i) y e = map_get f xs i y e

-- What lies between equal ones.
less_between : IsTotalOrder value_cmp → (a v w b : Value) → value_cmp a v ≡ Equal → value_cmp b w ≡ Equal → value_cmp v w ≡ Less → value_cmp a b ≡ Less
less_between o a v w b p q l = o.congr a v b p ∙ flip_greater o b v (o.congr b w v q ∙ flip_less o v w l)

pub partition_of : IsTotalOrder value_cmp → (f : ℕ → Value) (g : Group) → IsPartition f g (map (group_at f g.by g.members) (occurring (map f g.members)))
partition_of o f g = record {
  once = λ y h.
      let m = in_of ys y h in
      let p = occurring_has o (map f ys) (f y) (map_in f ys y m) in (
        at p.0,
        record {
          listed = of_in sets (at p.0) (map_in at vs p.0 p.1);
          inside = of_in (at p.0).members y (member_of f g.by ys p.0 y p.2 m);
          alone = λ other l i.
              let w = in_map at vs other (in_of sets other l) in
              let e = (equals_of f g.by ys w.0 y (in_of (at w.0).members y (subst (λ s. Contains s.members y) (sym w.2) i))).0 in
              let same : value_cmp w.0 p.0 ≡ Equal = sym (o.congr (f y) w.0 p.0 e) ∙ p.2 in
              sym w.2 ∙ ap at (rising_once o vs w.0 p.0 (occurring_rises o (map f ys)) w.1 p.1 same);
        },
      );
  only = λ set y l i.
      let w = in_map at vs set (in_of sets set l) in
      of_in ys y (equals_of f g.by ys w.0 y (in_of (at w.0).members y (subst (λ s. Contains s.members y) (sym w.2) i))).1;
  some = λ set l.
      let w = in_map at vs set (in_of sets set l) in
      let x = in_map f ys w.0 (occurring_from (map f ys) w.0 w.1) in (
        x.0,
        subst (λ s. Contains s.members x.0) w.2 (of_in (at w.0).members x.0
            (member_of f g.by ys w.0 x.0 (ap (λ v. value_cmp v w.0) x.2 ∙ tied_itself o w.0) x.1)),
      );
  alike = λ set l.
      let w = in_map at vs set (in_of sets set l) in (
        w.0,
        record {
          by = ap (λ s. s.by) (sym w.2);
          alike = λ y i. (equals_of f g.by ys w.0 y (in_of (at w.0).members y (subst (λ s. Contains s.members y) (sym w.2) i))).0;
        },
      );
  ascending = λ i j former latter x y l a b m n.
      let v = map_get at vs i former a in
      let w = map_get at vs j latter b in
      less_between o (f x) v.0 w.0 (f y)
      (equals_of f g.by ys v.0 x (in_of (at v.0).members x (subst (λ s. Contains s.members x) (sym v.2) m))).0
      (equals_of f g.by ys w.0 y (in_of (at w.0).members y (subst (λ s. Contains s.members y) (sym w.2) n))).0
      (rising_less vs i j v.0 w.0 (occurring_rises o (map f ys)) l v.1 w.1);
}
  where
    ys : List ℕ
    ys = g.members

    vs : List Value
    vs = occurring (map f ys)

    at : Value → Group
    at = group_at f g.by ys

    sets : List Group
    sets = map at vs
