-- A seat that is split off keeps the rule of the table, and so does the first one.
use Rattle.std.proofs.Common.{◌≡◌, ◌≢◌, ℕ, ◌+◌, ◌<◌, ◌≤◌, zero, suc, List, [], ◌∷◌, ◌++◌, refl, sym, ◌∙◌, ap, subst, arith, length, length-append, length-set, set, ⊎_elim, Option, Some, None}
use Rattle.std.proofs.lemmas.Option.{same_Some}
use mathlib.Core.Logic.{dite}
use mathlib.Core.Option.{some, some-injective, some-ne-none}
use native.Mathlib.Decide.{ℕ_discrete}
use lib.ListN.{get_elem?}
use Rattle.atomic_table.specs.Table.{State, Splits, opening}
use Rattle.atomic_table.proofs.Lists.{at_set, at_snoc, at_longer, set_here, set_else}
use Rattle.store_model.specs.State.{is_among}
use Rattle.store_state.specs.Meaning.{Meaning}
use Rattle.port_history.specs.Entries.{Entry}
use Rattle.shared_store.specs.Apart.{IsUnshared}
use Rattle.shared_store.specs.declared.known.Known.{Known}
use Rattle.shared_store.specs.Rule.{Fits, AreOfTwo, IsKept, all_parts, first_view, one_less, split_off}
use Rattle.shared_store.specs.Rule.Turn.{free, taken}
use Rattle.shared_store.proofs.Lists.{own_nobody, inside}
use Rattle.shared_store.proofs.Keeps.{changed, changed_two}
use Rattle.shared_store.proofs.Leaves.{nothing_held}

pub parts_less : {C : Type 0} (views : List (Known C)) (i : ℕ) (v w : Known C) → get_elem? views i ≡ some v → all_parts (set views i w) + v.parts ≡ all_parts views + w.parts
parts_less [] i v w e = absurd (some-ne-none v (sym e))
parts_less (x ∷ xs) zero v w e = let is : x.parts ≡ v.parts = ap (λ (k : Known _). k.parts) (some-injective x v e) in omega (arith, is)
parts_less (x ∷ xs) (suc i) v w e = omega (arith, parts_less xs i v w e)

parts_snoc : {C : Type 0} (views : List (Known C)) (w : Known C) → all_parts (views ++ w ∷ []) ≡ all_parts views + w.parts
parts_snoc [] w = omega arith
parts_snoc (x ∷ xs) w = omega (arith, parts_snoc xs w)

at_front : {A : Type 0} (l m : List A) (i : ℕ) → i < length l → get_elem? (l ++ m) i ≡ get_elem? l i
at_front [] m i h = absurd (omega arith)
at_front (x ∷ xs) m zero h = refl
at_front (x ∷ xs) m (suc i) h = at_front xs m i (omega (arith, h))

module _ {C : Type 0} (m : Meaning C) (key : C) where
  abbrev K : Type 0
  K = Known C

  -- of views of which one changes, and after which another comes
  more : (P : ℕ → K → Type 0) (views : List K) (id : ℕ) (l r : K) → P id l → ((i : ℕ) → P i r) → ((i : ℕ) (v : K) → i ≢ id → get_elem? views i ≡ some v → P i v)
      → (i : ℕ) (v : K) → get_elem? (set views id l ++ r ∷ []) i ≡ some v → P i v
  more P views id l r mine new others i v e = ⊎_elim (λ (old : get_elem? (set views id l) i ≡ some v). changed m key P views id l mine others i v old)
      (λ (is : r ≡ v). subst (P i) is (new i)) (at_snoc (set views id l) r v i e)

  new_fits : (es : List Entry) (core : C) (v : K) → Fits m key es core v → Fits m key es core (split_off v)
  new_fits es core v f = record {
    start = f.start;
    spent = λ h. absurd (omega (arith, h));
    rest = f.rest;
    begins = f.begins;
    others = own_nobody f.rest;
    leaves = λ e c. nothing_held e.event e.reply;
    named = λ n h. cc;
    are_open = λ hold c. absurd (omega (arith, c.1));
    strangers = tt;
    kept = λ told. refl;
    joined = λ one other is. cc;
  }

  less_fits : (es : List Entry) (core : C) (v : K) → 2 ≤ v.parts → Fits m key es core v → Fits m key es core (one_less v)
  less_fits es core v enough f = record {
    start = f.start;
    spent = λ h. absurd (omega (arith, h, enough));
    rest = f.rest;
    begins = f.begins;
    others = f.others;
    leaves = f.leaves;
    named = f.named;
    are_open = f.are_open;
    strangers = f.strangers;
    kept = f.kept;
    joined = f.joined;
  }

  of_new : (u v : K) → AreOfTwo u (split_off v) × AreOfTwo (split_off v) u
  of_new u v = (record { names = λ n h. refl; holds = λ one other c d. absurd (omega (arith, d.1)) }, record { names = λ n h. cc; holds = λ one other c d. absurd (omega (arith, c.1)) })

  pub splits : (id : ℕ) (v : K) → 2 ≤ v.parts → Splits (IsKept m key) id v (one_less v) (split_off v)
  splits id v enough s k at =
      let within = inside s.views id v at in record {
        unshared = k.unshared;
        untouched = k.untouched;
        entries = k.entries;
        core = k.core;
        turn = k.turn;
        words = k.words;
        made = k.made;
        each = more (λ i u. Fits m key k.entries k.core u) s.views id (one_less v) (split_off v)
            (less_fits k.entries k.core v enough (k.each id v at)) (λ i. new_fits k.entries k.core v (k.each id v at)) (λ i u other e. k.each i u e);
        two = λ i j u w apart e f. ⊎_elim
            (λ (a : get_elem? (set s.views id (one_less v)) i ≡ some u). ⊎_elim
            (λ (b : get_elem? (set s.views id (one_less v)) j ≡ some w). old_two s k at i j u w apart a b)
            (λ (b : split_off v ≡ w). subst (λ (x : K). AreOfTwo u x) b (of_new u v).0)
            (at_snoc (set s.views id (one_less v)) (split_off v) w j f))
            (λ (a : split_off v ≡ u). subst (λ (x : K). AreOfTwo x w) a (of_new w v).1)
            (at_snoc (set s.views id (one_less v)) (split_off v) u i e);
        parts =
            let a = parts_snoc (set s.views id (one_less v)) (split_off v) in
            let b = parts_less s.views id v (one_less v) at in omega (arith, a, b, k.parts, enough);
        owned = λ e c. let o = k.owned e c in
            dite (ℕ_discrete o.0 id)
            (λ here. (
              id,
              one_less v,
              at_longer (set s.views id (one_less v)) (split_off v ∷ []) id (one_less v) (set_here s.views id (one_less v) within),
              ap (λ (u : K). is_among e.seat u.seen.names) (some-injective v o.1 (sym at ∙ ap (get_elem? s.views) (sym here) ∙ o.2)) ∙ o.3,
            ))
            (λ there. (o.0, o.1, at_longer (set s.views id (one_less v)) (split_off v ∷ []) o.0 o.1 (set_else s.views id o.0 (one_less v) there ∙ o.2), o.3));
        whose = elim k.whose [
          | free word homes nobody ↦ free word homes (more (λ i u. u.shown ≡ None) s.views id (one_less v) (split_off v) (nobody id v at) (λ i. refl) (λ i u other e. nobody i u e))
          | taken holder close word homes its others ↦
              let near : holder < length (set s.views id (one_less v)) = omega (arith, length-set s.views id (one_less v), close) in
              taken holder (omega (arith, length-append (set s.views id (one_less v)) (split_off v ∷ []), near)) word homes
              (λ u e. ⊎_elim
              (λ (t : (holder ≡ id) × (one_less v ≡ u)). ap (λ (x : K). x.shown) (sym t.1) ∙ its v (ap (get_elem? s.views) t.0 ∙ at))
              (λ (t : (holder ≢ id) × (get_elem? s.views holder ≡ some u)). its u t.1)
              (at_set s.views id holder (one_less v) u (sym (at_front (set s.views id (one_less v)) (split_off v ∷ []) holder near) ∙ e)))
              (λ i u other e. ⊎_elim
              (λ (a : get_elem? (set s.views id (one_less v)) i ≡ some u). ⊎_elim
              (λ (t : (i ≡ id) × (one_less v ≡ u)). ap (λ (x : K). x.shown) (sym t.1) ∙ others id v (λ p. other (t.0 ∙ p)) at)
              (λ (t : (i ≢ id) × (get_elem? s.views i ≡ some u)). others i u other t.1)
              (at_set s.views id i (one_less v) u a))
              (λ (b : split_off v ≡ u). ap (λ (x : K). x.shown) (sym b))
              (at_snoc (set s.views id (one_less v)) (split_off v) u i e))
        ];
      }
    where
      old_two : (s : State (Option C) K) (k : IsKept m key s) (at : get_elem? s.views id ≡ some v) (i j : ℕ) (u w : K) → i ≢ j → get_elem? (set s.views id (one_less v)) i ≡ some u → get_elem? (set s.views id (one_less v)) j ≡ some w → AreOfTwo u w
      old_two s k at i j u w apart a b = changed_two m key AreOfTwo s.views id (one_less v)
          (λ x y other e. let p = k.two id x v y (λ q. other (sym q)) at e in let q = k.two x id y v other e at in
          (record { names = p.names; holds = p.holds }, record { names = q.names; holds = q.holds }))
          k.two i j u w apart a b

  -- ---- the first seat

  pub begins : IsUnshared m → m.holds key [] → IsKept m key (opening (0 ∷ 0 ∷ []) (Some key ∷ []) (first_view key))
  begins only held = record {
    unshared = only;
    untouched = held;
    entries = [];
    core = key;
    turn = 0;
    words = refl;
    made = refl;
    each = only_one (λ i v. Fits m key [] key v) record {
      start = λ known is. sym (same_Some key known is);
      spent = λ h. absurd (omega (arith, h));
      rest = [];
      begins = refl;
      others = refl;
      leaves = λ e c. absurd (omega (arith, c.1));
      named = λ n h. cc;
      are_open = λ hold c. absurd (omega (arith, c.1));
      strangers = tt;
      kept = λ told. refl;
      joined = λ one other is. cc;
    };
    two = λ i j v w apart e f. absurd (apart (at_zero i v e ∙ sym (at_zero j w f)));
    parts = refl;
    owned = λ e c. absurd (omega (arith, c.1));
    whose = free refl refl (only_one (λ i v. v.shown ≡ None) refl);
  }
    where
      at_zero : (i : ℕ) (v : K) → get_elem? (first_view key ∷ []) i ≡ some v → i ≡ 0
      at_zero zero v e = refl
      at_zero (suc i) v e = absurd (some-ne-none v (sym e))

      only_one : (P : ℕ → K → Type 0) → P 0 (first_view key) → (i : ℕ) (v : K) → get_elem? (first_view key ∷ []) i ≡ some v → P i v
      only_one P h zero v e = subst (P 0) (some-injective (first_view key) v e) h
      only_one P h (suc i) v e = absurd (some-ne-none v (sym e))
