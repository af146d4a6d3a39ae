-- The calls of a seat over many calls, and of two seats that were made one.
use Rattle.std.proofs.Common.{◌≡◌, ℕ, ◌+◌, List, [], ◌∷◌, ◌++◌, Bool, true, false, refl, sym, ◌∙◌, ap, subst, arith, length, map, if◌then◌else◌}
use Rattle.std.specs.Prelude.{◌||◌}
use Rattle.std.proofs.lemmas.List.{append-nil, append_assoc}
use Rattle.store_model.specs.State.{is_among}
use Rattle.store_model.proofs.Numbers.{map_append}
use Rattle.store_state.specs.Made.{AreMade, Call, call}
use Rattle.store_state.specs.Meaning.{Meaning}
use Rattle.port_history.specs.Entries.{Entry, call_of, own}
use Rattle.shared_store.specs.Rule.{together}
use Rattle.shared_store.specs.Seats.{IsBoth, Stand, calls_of, seat_meaning}
use Rattle.shared_store.specs.Seen.{GoesOn, ShareNone, joined_names}
use Rattle.shared_store.specs.declared.known.Known.{Known}
use Rattle.shared_store.proofs.Joins.{joined_among, joined_left, joined_right}

-- ---- many calls

module _ {C : Type 0} (m : Meaning C) where
  pub same_calls : (v w : Stand C) (cs : List Call) → AreMade (seat_meaning m) v cs w → map call_of (calls_of w.known) ≡ map call_of (calls_of v.known) ++ cs
  same_calls v w [] made = ap (λ (s : Stand C). map call_of (calls_of s.known)) made ∙ sym (append-nil (map call_of (calls_of v.known)))
  same_calls v w (c ∷ cs) made =
      let did = made.1.did in
      same_calls made.0 w cs made.2
      ∙ ap (λ (xs : List Call). xs ++ cs) (ap (map call_of) did.mine ∙ map_append call_of (calls_of v.known) (did.entry ∷ [])
      ∙ (λ i. map call_of (calls_of v.known) ++ call (did.its_event i) (did.its_reply i) ∷ []))
      ∙ append_assoc (map call_of (calls_of v.known)) (c ∷ []) cs

  pub seen_goes_on : (v w : Stand C) (cs : List Call) → AreMade (seat_meaning m) v cs w → (later : List Entry) × (w.known.seen.entries ≡ v.known.seen.entries ++ later)
  seen_goes_on v w [] made = ([], ap (λ (s : Stand C). s.known.seen.entries) made ∙ sym (append-nil v.known.seen.entries))
  seen_goes_on v w (c ∷ cs) made =
      let did = made.1.did in
      let rest = seen_goes_on made.0 w cs made.2 in (
        (did.between ++ did.entry ∷ []) ++ rest.0,
        rest.1 ∙ ap (λ (es : List Entry). es ++ rest.0) (did.seen ∙ append_assoc v.known.seen.entries did.between (did.entry ∷ []))
            ∙ append_assoc v.known.seen.entries (did.between ++ did.entry ∷ []) rest.0,
      )

  pub same_store : (v w : Stand C) (cs : List Call) → AreMade (seat_meaning m) v cs w
      → (w.table ≡ v.table) × (w.known.start ≡ v.known.start) × (w.known.parts ≡ v.known.parts)
  same_store v w [] made = (ap (λ (s : Stand C). s.table) made, ap (λ (s : Stand C). s.known.start) made, ap (λ (s : Stand C). s.known.parts) made)
  same_store v w (c ∷ cs) made =
      let did = made.1.did in
      let rest = same_store made.0 w cs made.2 in (rest.0 ∙ did.same_table, rest.1 ∙ did.same_start, rest.2 ∙ did.parts)

-- ---- two seats

-- those under some names are among those under more
own_within : (few more : List ℕ) → ((n : ℕ) → is_among n few ≡ true → is_among n more ≡ true) → (es : List Entry) → own few (own more es) ≡ own few es
own_within few more within [] = refl
own_within few more within (e ∷ es) = by_test (is_among e.seat more) (is_among e.seat few) refl (within e.seat) (own_within few more within es)
  where
    by_test : (t f : Bool) → is_among e.seat few ≡ f → (is_among e.seat few ≡ true → t ≡ true) → own few (own more es) ≡ own few es
        → own few (if t then e ∷ own more es else own more es) ≡ (if f then e ∷ own few es else own few es)
    by_test true true is g rest = rw is (ap (λ (xs : List Entry). e ∷ xs) rest)
    by_test true false is g rest = rw is rest
    by_test false true is g rest = let bad : false ≡ true = g is in cc
    by_test false false is g rest = rest

-- those under the names of both are as many as those of each together
own_count : (ns ms : List ℕ) → ShareNone ns ms → (es : List Entry) → length (own (joined_names ns ms) es) ≡ length (own ns es) + length (own ms es)
own_count ns ms apart [] = refl
own_count ns ms apart (e ∷ es) =
    subst (λ (t : Bool). length (if t then e ∷ own (joined_names ns ms) es else own (joined_names ns ms) es) ≡ length (own ns (e ∷ es)) + length (own ms (e ∷ es)))
    (sym (joined_among e.seat ns ms)) (by_test (is_among e.seat ns) (is_among e.seat ms) (apart e.seat) (own_count ns ms apart es))
  where
    by_test : (a b : Bool) → (a ≡ true → b ≡ false) → length (own (joined_names ns ms) es) ≡ length (own ns es) + length (own ms es)
        → length (if a || b then e ∷ own (joined_names ns ms) es else own (joined_names ns ms) es)
        ≡ length (if a then e ∷ own ns es else own ns es) + length (if b then e ∷ own ms es else own ms es)
    by_test true true g rest = let bad : true ≡ false = g refl in cc
    by_test true false g rest = omega (arith, rest)
    by_test false true g rest = omega (arith, rest)
    by_test false false g rest = rest

pub is_both : {C : Type 0} (v w : Known C) → ShareNone v.seen.names w.seen.names → GoesOn v.seen.names v.seen.entries (together v w).seen.entries
    → GoesOn w.seen.names w.seen.entries (together v w).seen.entries → IsBoth v w (together v w)
is_both v w apart one other =
    let ns = v.seen.names in
    let ms = w.seen.names in
    let all = (together v w).seen.entries in record {
      first = (one.later, one.begins);
      second = (other.later, other.begins);
      parts = refl;
      names = λ n. joined_among n ns ms;
      holds = refl;
      of_first = own_within ns (joined_names ns ms) (λ n h. joined_left n ns ms h) all ∙ one.mine;
      of_second = own_within ms (joined_names ns ms) (λ n h. joined_right n ns ms h) all ∙ other.mine;
      no_more = own_count ns ms apart all ∙ (λ i. length (one.mine i) + length (other.mine i));
    }
