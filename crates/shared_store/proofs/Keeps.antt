-- Each step keeps the rule of the table.
use Rattle.std.proofs.Common.{◌≡◌, ◌≢◌, ℕ, ◌%◌, ◌^◌, ◌<◌, ◌≤◌, zero, suc, List, [], ◌∷◌, ◌++◌, Bool, true, false, if◌then◌else◌, refl, sym, ◌∙◌, ap, subst, arith, length, length-set, get_or, set, ⊎_elim, eqb, Option, Some, None}
use Rattle.std.specs.List.{Contains}
use Rattle.std.proofs.lemmas.List.Elements.{Contains-append_right}
use Rattle.std.proofs.lemmas.Option.{same_Some}
use mathlib.Core.Logic.{dite}
use mathlib.Core.Option as maybe
use mathlib.Core.Option.{some, none, some-injective, some-ne-none}
use native.Mathlib.Decide.{ℕ_discrete}
use lib.ListN.{get_elem?}
use prog.Atomic.{either}
use Rattle.atomic_table.specs.Table.{State, Me, step, keeps, takes, gives, Allows}
use Rattle.atomic_table.proofs.Lists.{at_set, set_here, set_else, set_again}
use Rattle.store_model.specs.State.{is_among}
use Rattle.store_state.specs.Meaning.{Meaning}
use Rattle.port_history.specs.Entries.{Entry, own, open_from}
use Rattle.shared_store.specs.Seen.{some_fails, Seen, nothing_seen}
use Rattle.shared_store.specs.declared.known.Known.{Known}
use Rattle.shared_store.specs.Rule.{Fits, AreOfTwo, Turn, IsKept, all_parts, showing, IsFound, won, freed}
use Rattle.shared_store.specs.Rule.Turn.{free, taken}
use Rattle.port_history.proofs.Chains.{holds_chain, tells_chain}
use Rattle.shared_store.proofs.Lists.{own_all, own_fails, fails_left, none_fails, inside, parts_set}

pub shorter : {A : Type 0} (l : List A) (i : ℕ) (a : A) → i < length l → i < length (set l i a)
shorter l i a h = omega (arith, length-set l i a, h)

some_own : (names : List ℕ) (e : Entry) (es : List Entry) → is_among e.seat names ≡ true → own names (e ∷ es) ≡ [] → ⊥
some_own names e es h g = let bad : e ∷ own names es ≡ [] = sym (here (is_among e.seat names) h) ∙ g in cc
  where
    here : (t : Bool) → t ≡ true → (if t then e ∷ own names es else own names es) ≡ e ∷ own names es
    here true p = refl
    here false p = cc

-- a seat that has all parts has them alone
parts_at : {C : Type 0} (views : List (Known C)) (i : ℕ) (v : Known C) → get_elem? views i ≡ some v → v.parts ≤ all_parts views
parts_at [] i v e = absurd (some-ne-none v (sym e))
parts_at (x ∷ xs) zero v e = let is : x.parts ≡ v.parts = ap (λ (k : Known _). k.parts) (some-injective x v e) in omega (arith, is)
parts_at (x ∷ xs) (suc i) v e = omega (arith, parts_at xs i v e)

alone : {C : Type 0} (views : List (Known C)) (i j : ℕ) (v u : Known C) → j ≢ i → get_elem? views i ≡ some v → get_elem? views j ≡ some u → all_parts views ≡ v.parts → u.parts ≡ 0
alone [] i j v u other e f all = absurd (some-ne-none v (sym e))
alone (x ∷ xs) zero zero v u other e f all = absurd (other refl)
alone (x ∷ xs) zero (suc j) v u other e f all =
    let is : x.parts ≡ v.parts = ap (λ (k : Known _). k.parts) (some-injective x v e) in omega (arith, is, all, parts_at xs j u f)
alone (x ∷ xs) (suc i) zero v u other e f all =
    let is : x.parts ≡ u.parts = ap (λ (k : Known _). k.parts) (some-injective x u f) in omega (arith, is, all, parts_at xs i v e)
alone (x ∷ xs) (suc i) (suc j) v u other e f all =
    alone xs i j v u (λ p. other (ap suc p)) e f (omega (arith, all, parts_at xs i v e))

module _ {C : Type 0} (m : Meaning C) (key : C) where
  abbrev K : Type 0
  K = Known C

  abbrev St : Type 0
  St = State (Option C) K

  abbrev M : Type 0
  M = Me (Option C) K

  abbrev Rule : St → Type 0
  Rule = IsKept m key

  -- ---- views of which one changes

  pub changed : (P : ℕ → K → Type 0) (views : List K) (id : ℕ) (w : K) → P id w → ((i : ℕ) (v : K) → i ≢ id → get_elem? views i ≡ some v → P i v)
      → (i : ℕ) (v : K) → get_elem? (set views id w) i ≡ some v → P i v
  changed P views id w mine others i v e = ⊎_elim (λ (t : (i ≡ id) × (w ≡ v)). subst (λ (x : ℕ × K). P x.0 x.1) (λ j. (sym t.0 j, t.1 j)) mine)
      (λ (t : (i ≢ id) × (get_elem? views i ≡ some v)). others i v t.0 t.1) (at_set views id i w v e)

  pub changed_two : (R : K → K → Type 0) (views : List K) (id : ℕ) (w : K) → ((i : ℕ) (v : K) → i ≢ id → get_elem? views i ≡ some v → R w v × R v w)
      → ((i j : ℕ) (u v : K) → i ≢ j → get_elem? views i ≡ some u → get_elem? views j ≡ some v → R u v)
      → (i j : ℕ) (u v : K) → i ≢ j → get_elem? (set views id w) i ≡ some u → get_elem? (set views id w) j ≡ some v → R u v
  changed_two R views id w mine others i j u v apart e f = ⊎_elim
      (λ (s : (i ≡ id) × (w ≡ u)). ⊎_elim
      (λ (t : (j ≡ id) × (w ≡ v)). absurd (apart (s.0 ∙ sym t.0)))
      (λ (t : (j ≢ id) × (get_elem? views j ≡ some v)). subst (λ (x : K). R x v) s.1 (mine j v t.0 t.1).0)
      (at_set views id j w v f))
      (λ (s : (i ≢ id) × (get_elem? views i ≡ some u)). ⊎_elim
      (λ (t : (j ≡ id) × (w ≡ v)). subst (λ (x : K). R u x) t.1 (mine i u s.0 s.1).1)
      (λ (t : (j ≢ id) × (get_elem? views j ≡ some v)). others i j u v apart s.1 t.1)
      (at_set views id j w v f))
      (at_set views id i w u e)

  -- ---- what a view shows changes, and nothing else of it

  refits : (shown : Option C) (es : List Entry) (core : C) (v : K) → Fits m key es core v → Fits m key es core (showing shown v)
  refits shown es core v f = record {
    start = f.start;
    spent = f.spent;
    rest = f.rest;
    begins = f.begins;
    others = f.others;
    leaves = f.leaves;
    named = f.named;
    are_open = f.are_open;
    strangers = f.strangers;
    kept = f.kept;
    joined = f.joined;
  }

  reshown : (s : St) (k : Rule s) (id : ℕ) (v : K) (shown : Option C) (turn' : ℕ) (words' : List ℕ) (homes' : List (maybe.Option (Option C)))
      → get_elem? s.views id ≡ some v → words' ≡ turn' ∷ (length k.entries % 2 ^ 64) ∷ [] → Turn k.core turn' homes' (set s.views id (showing shown v))
      → Rule record { words = words'; homes = homes'; views = set s.views id (showing shown v) }
  reshown s k id v shown turn' words' homes' at words whose = record {
    unshared = k.unshared;
    untouched = k.untouched;
    entries = k.entries;
    core = k.core;
    turn = turn';
    words = words;
    made = k.made;
    each = changed (λ i u. Fits m key k.entries k.core u) s.views id (showing shown v) (refits shown k.entries k.core v (k.each id v at)) (λ i u other e. k.each i u e);
    two = changed_two AreOfTwo s.views id (showing shown v)
        (λ i u other e.
        let a = k.two id i v u (λ p. other (sym p)) at e in let b = k.two i id u v other e at in
        (record { names = a.names; holds = a.holds }, record { names = b.names; holds = b.holds }))
        k.two;
    parts = parts_set s.views id v (showing shown v) at refl ∙ k.parts;
    owned = λ e c. let o = k.owned e c in
        dite (ℕ_discrete o.0 id)
        (λ here. (
          id,
          showing shown v,
          set_here s.views id (showing shown v) (inside s.views id v at),
          ap (λ (u : K). is_among e.seat u.seen.names) (some-injective v o.1 (sym at ∙ ap (get_elem? s.views) (sym here) ∙ o.2)) ∙ o.3,
        ))
        (λ there. (o.0, o.1, set_else s.views id o.0 (showing shown v) there ∙ o.2, o.3));
    whose = whose;
  }

  -- ---- whose turn it is

  -- the seat that shows the port has the turn
  pub record Holding (s : St) (k : Rule s) (id : ℕ) (core : C) : Type 0 where
    pub turn : k.turn ≡ 1
    pub homes : s.homes ≡ none ∷ []
    pub core_is : k.core ≡ core
    pub others : (i : ℕ) (v : K) → i ≢ id → get_elem? s.views i ≡ some v → v.shown ≡ None

  none_some : {A : Type 0} (x : A) (o : Option A) → o ≡ Some x → o ≡ None → ⊥
  none_some x None e f = cc
  none_some x (Some y) e f = cc

  pub holding : (s : St) (k : Rule s) (id : ℕ) (v : K) (core : C) → get_elem? s.views id ≡ some v → v.shown ≡ Some core → Holding s k id core
  holding s k id v core at shows = elim k.whose [
    | free word homes nobody ↦ absurd (none_some core v.shown shows (nobody id v at))
    | taken holder within word homes its others ↦ dite (ℕ_discrete id holder)
        (λ same. record {
          turn = word;
          homes = homes;
          core_is = same_Some k.core core (sym (its v (ap (get_elem? s.views) (sym same) ∙ at)) ∙ shows);
          others = λ i u other e. others i u (λ p. other (p ∙ sym same)) e;
        })
        (λ other. absurd (none_some core v.shown shows (others id v other at)))
  ]

  -- ---- a seat with all parts

  owns_all : (s : St) (k : Rule s) (id : ℕ) (v : K) → get_elem? s.views id ≡ some v → v.parts ≡ 4294967296
      → (e : Entry) → Contains k.entries e → is_among e.seat v.seen.names ≡ true
  owns_all s k id v at all e c =
      let o = k.owned e c in
      dite (ℕ_discrete o.0 id)
      (λ here. ap (λ (u : K). is_among e.seat u.seen.names) (some-injective v o.1 (sym at ∙ ap (get_elem? s.views) (sym here) ∙ o.2)) ∙ o.3)
      (λ there.
      let spent : o.1.parts ≡ 0 = alone s.views id o.0 v o.1 there at o.2 (k.parts ∙ sym all) in
      let bare : o.1.seen ≡ nothing_seen = (k.each o.0 o.1 o.2).spent spent in
      let bad : false ≡ true = sym (ap (λ (z : Seen). is_among e.seat z.names) bare) ∙ o.3 in cc)

  nothing_later : (s : St) (k : Rule s) (id : ℕ) (v : K) → get_elem? s.views id ≡ some v → (f : Fits m key k.entries k.core v) → v.parts ≡ 4294967296 → f.rest ≡ []
  nothing_later s k id v at f all = at_rest f.rest refl
    where
      at_rest : (es : List Entry) → f.rest ≡ es → f.rest ≡ []
      at_rest [] e = e
      at_rest (x ∷ xs) e =
          let there : Contains k.entries x = subst (λ (es : List Entry). Contains es x) (sym (f.begins ∙ ap (λ (es : List Entry). v.seen.entries ++ es) e)) (Contains-append_right v.seen.entries (x ∷ xs) x (0, omega arith, refl)) in
          absurd (some_own v.seen.names x xs (owns_all s k id v at all x there) (sym (ap (own v.seen.names) e) ∙ f.others))

  -- ---- kinds 3 and 4

  found_here : (s : St) (k : Rule s) (id : ℕ) (v : K) → get_elem? s.views id ≡ some v → IsFound m key v k.core
  found_here s k id v at =
      let f = k.each id v at in
      let held : m.holds k.core (open_from [] k.entries) = holds_chain m key k.core [] k.entries k.untouched k.made in record {
        held = open_from [] k.entries;
        holds = held;
        are_open = λ hold c. (open_from [] k.entries, held, f.are_open hold c);
        strangers = f.strangers;
        telling = tells_chain m key k.core k.entries k.made;
        kept = f.kept;
        entries = k.entries;
        made = k.made;
        later = f.rest;
        begins = f.begins;
        others = f.others;
        whole = λ all. (nothing_later s k id v at f all, own_all v.seen.names k.entries (owns_all s k id v at all));
        unbroken = λ writes. own_fails v.seen.names v.seen.entries (fails_left v.seen.entries f.rest
            (ap some_fails (sym f.begins) ∙ none_fails m k.unshared key k.core [] k.entries k.untouched k.made writes));
      }

  found : (s : St) (k : Rule s) (id : ℕ) (v : K) → get_elem? s.views id ≡ some v → (known : C) → v.start ≡ Some known → IsFound m known v k.core
  found s k id v at known is = subst (λ (c : C). IsFound m c v k.core) (sym ((k.each id v at).start known is)) (found_here s k id v at)

  -- the step finds the turn free, and takes it with the port
  takes_turn : (s : St) (k : Rule s) (id : ℕ) (v : K) → get_elem? s.views id ≡ some v → s.homes ≡ some (Some k.core) ∷ []
      → ((i : ℕ) (u : K) → get_elem? s.views i ≡ some u → u.shown ≡ None)
      → Rule record { words = set s.words 0 1; homes = set s.homes 0 none; views = set s.views id (showing (Some k.core) v) }
  takes_turn s k id v at homes nobody = reshown s k id v (Some k.core) 1 (set s.words 0 1) (set s.homes 0 none) at
      (ap (λ (ws : List ℕ). set ws 0 1) k.words)
      (taken id (shorter s.views id (showing (Some k.core) v) (inside s.views id v at)) refl (ap (λ (hs : List (maybe.Option (Option C))). set hs 0 none) homes)
      (λ u e. sym (ap (λ (x : K). x.shown) (some-injective (showing (Some k.core) v) u (sym (set_here s.views id (showing (Some k.core) v) (inside s.views id v at)) ∙ e))))
      (λ i u other e. nobody i u (sym (set_else s.views id i (showing (Some k.core) v) other) ∙ e)))

  -- nothing changes
  pub same_state : (s : St) → Rule s → (id : ℕ) (v : K) (ws : List ℕ) → get_elem? s.views id ≡ some v → ws ≡ s.words
      → Rule record { words = ws; homes = s.homes; views = set s.views id v }
  same_state s k id v ws at same = subst (λ (x : List ℕ × List K). Rule record { words = x.0; homes = s.homes; views = x.1 })
      (λ j. (sym same j, sym (set_again s.views id v at) j)) k

  pub wins : (slots id : ℕ) (v : K) → Allows Rule slots id (v, []) 0 (λ n. either (eqb n 0) 1 n) (won m (step slots 0 0 1 none) (v, []))
  wins slots id v s k deep at small = elim k.whose [
    | free word homes nobody ↦
        let zero_word : get_or s.words 0 0 ≡ 0 = ap (λ (ws : List ℕ). get_or ws 0 0) k.words ∙ word in
        let one : either (eqb (get_or s.words 0 0) 0) 1 (get_or s.words 0 0) ≡ 1 = ap (λ (n : ℕ). either (eqb n 0) 1 n) zero_word in (
          showing (Some k.core) v,
          takes 0 (Some k.core),
          ap (λ (hs : List (maybe.Option (Option C))). get_elem? hs 0) homes,
          subst (λ (n : ℕ). Rule record { words = set s.words 0 n; homes = set s.homes 0 none; views = set s.views id (showing (Some k.core) v) }) (sym one) (takes_turn s k id v at homes nobody),
          ((λ h. record { core = k.core; shows = refl; found = found s k id v at }), (λ h. absurd (h zero_word))),
        )
    | taken holder within word homes its others ↦
        let one_word : get_or s.words 0 0 ≡ 1 = ap (λ (ws : List ℕ). get_or ws 0 0) k.words ∙ word in
        let one : either (eqb (get_or s.words 0 0) 0) 1 (get_or s.words 0 0) ≡ 1 = ap (λ (n : ℕ). either (eqb n 0) 1 n) one_word in (
          v,
          keeps,
          tt,
          same_state s k id v (set s.words 0 (either (eqb (get_or s.words 0 0) 0) 1 (get_or s.words 0 0))) at
              (ap (set s.words 0) one ∙ ap (λ (ws : List ℕ). set ws 0 1) k.words ∙ ap (λ (n : ℕ). n ∷ (length k.entries % 2 ^ 64) ∷ []) (sym word) ∙ sym k.words),
          ((λ h. absurd (zero_one (get_or s.words 0 0) h one_word)), (λ h. refl)),
        )
  ]
    where
      zero_one : (n : ℕ) → n ≡ 0 → n ≡ 1 → ⊥
      zero_one n e f = absurd (omega (arith, e, f))

  pub wins_at : (slots id : ℕ) (me : M) → me.1 ≡ [] → Allows Rule slots id me 0 (λ n. either (eqb n 0) 1 n) (won m (step slots 0 0 1 none) me)
  wins_at slots id me e = subst (λ (xs : List (ℕ × Option C)). Allows Rule slots id (me.0, xs) 0 (λ n. either (eqb n 0) 1 n) (won m (step slots 0 0 1 none) (me.0, xs))) (sym e) (wins slots id me.0)

  -- ---- kind 8

  pub frees : (slots id : ℕ) (v : K) (core : C) → v.shown ≡ Some core → Allows Rule slots id (v, (0, Some core) ∷ []) 0 (λ _. 0) (λ _. freed (step slots 0 0 0 none) (v, (0, Some core) ∷ []) 0)
  frees slots id v core shows s k deep at small =
      let h = holding s k id v core at shows in (
        showing None v,
        gives,
        tt,
        reshown s k id v None 0 (set s.words 0 0) (set s.homes 0 (some (Some core))) at
            (ap (λ (ws : List ℕ). set ws 0 0) k.words)
            (free refl (ap (λ (hs : List (maybe.Option (Option C))). set hs 0 (some (Some core))) h.homes ∙ ap (λ (c : C). some (Some c) ∷ []) (sym h.core_is))
            (changed (λ i u. u.shown ≡ None) s.views id (showing None v) refl (λ i u other e. h.others i u other e))),
        refl,
      )

  pub frees_at : (slots id : ℕ) (me : M) (core : C) → me.0.shown ≡ Some core → me.1 ≡ (0, Some core) ∷ [] → Allows Rule slots id me 0 (λ _. 0) (λ _. freed (step slots 0 0 0 none) me 0)
  frees_at slots id me core shows e = subst (λ (xs : List (ℕ × Option C)). Allows Rule slots id (me.0, xs) 0 (λ _. 0) (λ _. freed (step slots 0 0 0 none) (me.0, xs) 0)) (sym e) (frees slots id me.0 core shows)
