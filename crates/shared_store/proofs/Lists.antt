-- Lists of entries, of looks and jobs, and of views.
use Rattle.std.proofs.Common.{◌≡◌, ℕ, ◌+◌, ◌<◌, zero, suc, List, [], ◌∷◌, ◌++◌, Bool, true, false, not, refl, sym, ◌∙◌, ap, subst, arith, length, filter, slice_index_or, if◌then◌else◌, ⊎_elim, set}
use Rattle.std.specs.Prelude.{◌||◌}
use Rattle.std.specs.List.{Contains}
use Rattle.std.proofs.lemmas.List.Elements.{Contains-append_cases, Contains-append_right}
use mathlib.Core.Option.{some, some-injective, some-ne-none}
use lib.ListN.{get_elem?}
use Rattle.store_model.specs.Event.{Event, Reply}
use Rattle.store_model.specs.Event.Event.{WritePiece}
use Rattle.store_model.specs.Event.Reply.{Refused}
use Rattle.store_model.specs.Event.Refusal.{Fault}
use Rattle.store_model.specs.Holds.{Hold, holds_after}
use Rattle.store_model.specs.State.{is_among}
use Rattle.store_model.specs.History.{History}
use Rattle.store_state.specs.Meaning.{View, Meaning, Called}
use Rattle.port_history.specs.Entries.{Entry, history_from, own, AreEntries}
use Rattle.shared_store.specs.Seen.{fails, some_fails}
use Rattle.shared_store.specs.Apart.{AreStrangers, AllStrangers, IsUnshared}
use Rattle.shared_store.specs.declared.known.Known.{Known}
use Rattle.shared_store.specs.Rule.{all_parts}

-- ---- entries

pub own_one : (names : List ℕ) (e : Entry) → is_among e.seat names ≡ true → own names (e ∷ []) ≡ e ∷ []
own_one names e h = rw h refl

pub own_none : (names : List ℕ) (e : Entry) → is_among e.seat names ≡ false → own names (e ∷ []) ≡ []
own_none names e h = rw h refl

pub own_nobody : (es : List Entry) → own [] es ≡ []
own_nobody [] = refl
own_nobody (e ∷ es) = own_nobody es

pub own_strangers : (names : List ℕ) (es : List Entry) → ((e : Entry) → Contains es e → is_among e.seat names ≡ false) → own names es ≡ []
own_strangers names [] h = refl
own_strangers names (e ∷ es) h = rw (h e (0, omega arith, refl)) (own_strangers names es (λ x c. h x (suc c.0, omega (arith, c.1), c.2)))

pub own_all : (names : List ℕ) (es : List Entry) → ((e : Entry) → Contains es e → is_among e.seat names ≡ true) → own names es ≡ es
own_all names [] h = refl
own_all names (e ∷ es) h = rw (h e (0, omega arith, refl)) (ap (λ (xs : List Entry). e ∷ xs) (own_all names es (λ x c. h x (suc c.0, omega (arith, c.1), c.2))))

-- a call that is no write of a piece which failed
unfailed : (e : Event) (r : Reply) → ((n f : ℕ) (bytes : List ℕ) → e ≡ WritePiece n f bytes → r ≡ Refused Fault → ⊥) → fails e r ≡ false
unfailed (WritePiece n f bytes) (Refused Fault) h = absurd (h n f bytes refl refl)
unfailed _ _ h = refl

-- ---- calls of a port

module _ {C : Type 0} (m : Meaning C) where
  -- the history that is known goes on
  pub knows_chain : IsUnshared m → (old new : C) (es : List Entry) (from : View) → m.knows old from → AreEntries m old es new
      → (u : View) × m.knows new u × (u.history ≡ history_from from.history es)
  knows_chain only old new [] from known made = (from, subst (λ (c : C). m.knows c from) (sym made) known, refl)
  knows_chain only old new (x ∷ es) from known made =
      let one = only.history old made.0 x.event x.reply made.1 from known in
      let rest = knows_chain only made.0 new es one.0 one.1 made.4 in
      (rest.0, rest.1, rest.2 ∙ ap (λ (h : History). history_from h es) one.2)

  -- a port that writes has written before
  writes_back : (old new : C) (hs : List Hold) (es : List Entry) → m.holds old hs → AreEntries m old es new → m.writes new → m.writes old
  writes_back old new hs [] h made w = subst m.writes made w
  writes_back old new hs (x ∷ es) h made w =
      made.1.ended hs h (writes_back made.0 new (holds_after x.event x.reply hs) es (made.1.holds hs h) made.4 w)

  -- and no piece has failed
  pub none_fails : IsUnshared m → (old new : C) (hs : List Hold) (es : List Entry) → m.holds old hs → AreEntries m old es new → m.writes new
      → some_fails es ≡ false
  none_fails only old new hs [] h made w = refl
  none_fails only old new hs (x ∷ es) h made w =
      let held = made.1.holds hs h in
      let still = writes_back made.0 new (holds_after x.event x.reply hs) es held made.4 w in
      let first : fails x.event x.reply ≡ false = unfailed x.event x.reply (λ n f bytes e r.
      only.broken old made.0 n f bytes (subst (λ (z : Event × Reply). Called m old z.0 z.1 made.0) (λ i. (e i, r i)) made.1) hs h still) in
      rw first (none_fails only made.0 new (holds_after x.event x.reply hs) es held made.4 w)

-- ---- pieces that failed

neither : (a b : Bool) → (a || b) ≡ false → (a ≡ false) × (b ≡ false)
neither true b h = cc
neither false b h = (refl, h)

both_no : (a b : Bool) → a ≡ false → b ≡ false → (a || b) ≡ false
both_no a b h k = rw h k

pub fails_left : (a b : List Entry) → some_fails (a ++ b) ≡ false → some_fails a ≡ false
fails_left [] b h = refl
fails_left (e ∷ a) b h =
    let both = neither (fails e.event e.reply) (some_fails (a ++ b)) h in both_no (fails e.event e.reply) (some_fails a) both.0 (fails_left a b both.1)

pub own_fails : (names : List ℕ) (es : List Entry) → some_fails es ≡ false → some_fails (own names es) ≡ false
own_fails names [] h = refl
own_fails names (e ∷ es) h =
    let both = neither (fails e.event e.reply) (some_fails es) h in
    by_test (is_among e.seat names) (own_fails names es both.1) both.0
  where
    by_test : (t : Bool) → some_fails (own names es) ≡ false → fails e.event e.reply ≡ false → some_fails (if t then e ∷ own names es else own names es) ≡ false
    by_test true rest first = both_no (fails e.event e.reply) (some_fails (own names es)) first rest
    by_test false rest first = rest

-- ---- filters

pub was_there : {X : Type 0} (p : X → Bool) (xs : List X) (x : X) → Contains (filter p xs) x → Contains xs x × (p x ≡ true)
was_there p [] x h = absurd (omega (arith, h.1))
was_there p (y ∷ ys) x h = by_test (p y) refl h (λ g. was_there p ys x g)
  where
    here : (k : ℕ) → k < length (y ∷ filter p ys) → slice_index_or (y ∷ filter p ys) k x ≡ x → p y ≡ true →
        (Contains (filter p ys) x → Contains ys x × (p x ≡ true)) → Contains (y ∷ ys) x × (p x ≡ true)
    here zero l e t ih = ((zero, omega arith, e), ap p (sym e) ∙ t)
    here (suc k) l e t ih = let inner = ih (k, omega (arith, l), e) in ((suc inner.0.0, omega (arith, inner.0.1), inner.0.2), inner.1)

    by_test : (t : Bool) → p y ≡ t → Contains (if t then y ∷ filter p ys else filter p ys) x →
        (Contains (filter p ys) x → Contains ys x × (p x ≡ true)) → Contains (y ∷ ys) x × (p x ≡ true)
    by_test true t h ih = here h.0 h.1 h.2 t ih
    by_test false t h ih = let inner = ih h in ((suc inner.0.0, omega (arith, inner.0.1), inner.0.2), inner.1)

still_at : {X : Type 0} (p : X → Bool) (xs : List X) (x : X) (k : ℕ) → k < length xs → slice_index_or xs k x ≡ x → p x ≡ true → Contains (filter p xs) x
still_at p [] x k l e h = absurd (omega arith)
still_at p (y ∷ ys) x zero l e h = rw (ap p e ∙ h) (zero, omega arith, e)
still_at p (y ∷ ys) x (suc k) l e h =
    let inner = still_at p ys x k (omega arith) e h in
    elim (p y) as (λ t. Contains (if t then y ∷ filter p ys else filter p ys) x) [
      | true ↦ (suc inner.0, omega (arith, inner.1), inner.2)
      | false ↦ inner
    ]

pub still_there : {X : Type 0} (p : X → Bool) (xs : List X) (x : X) → Contains xs x → p x ≡ true → Contains (filter p xs) x
still_there p xs x c h = still_at p xs x c.0 c.1 c.2 h

pub unended : (t : Bool) → not t ≡ true → t ≡ false
unended true h = cc
unended false h = refl

-- ---- holds

pub strangers_filter : (p : Hold → Bool) (hs : List Hold) → AllStrangers hs → AllStrangers (filter p hs)
strangers_filter p [] h = tt
strangers_filter p (x ∷ hs) h = by_test (p x) (strangers_filter p hs h.1)
  where
    by_test : (t : Bool) → AllStrangers (filter p hs) → AllStrangers (if t then x ∷ filter p hs else filter p hs)
    by_test true ih = ((λ other c. h.0 other (was_there p hs other c).0), ih)
    by_test false ih = ih

pub strangers_append : (a b : List Hold) → AllStrangers a → AllStrangers b → ((x y : Hold) → Contains a x → Contains b y → AreStrangers x y) → AllStrangers (a ++ b)
strangers_append [] b h k cross = k
strangers_append (x ∷ a) b h k cross = (
  (λ other c. ⊎_elim (λ (l : Contains a other). h.0 other l) (λ (r : Contains b other). cross x other (0, omega arith, refl) r) (Contains-append_cases a b other c)),
  strangers_append a b h.1 k (λ y z c d. cross y z (suc c.0, omega (arith, c.1), c.2) d),
)

-- what is in a first part is apart from what is in a second
pub strangers_parts : (a b : List Hold) → AllStrangers (a ++ b) → (x y : Hold) → Contains a x → Contains b y → AreStrangers x y
strangers_parts [] b h x y c d = absurd (omega (arith, c.1))
strangers_parts (z ∷ a) b h x y c d = at c.0 c.1 c.2 (λ g. strangers_parts a b h.1 x y g d)
  where
    at : (k : ℕ) → k < length (z ∷ a) → slice_index_or (z ∷ a) k x ≡ x → (Contains a x → AreStrangers x y) → AreStrangers x y
    at zero l e ih = subst (λ (t : Hold). AreStrangers t y) e (h.0 y (Contains-append_right a b y d))
    at (suc k) l e ih = ih (k, omega (arith, l), e)

-- ---- views

pub inside : {A : Type 0} (l : List A) (i : ℕ) (a : A) → get_elem? l i ≡ some a → i < length l
inside [] i a e = absurd (some-ne-none a (sym e))
inside (x ∷ xs) zero a e = omega arith
inside (x ∷ xs) (suc i) a e = let n = inside xs i a e in omega (arith, n)

pub parts_set : {C : Type 0} (views : List (Known C)) (i : ℕ) (v w : Known C) → get_elem? views i ≡ some v → w.parts ≡ v.parts → all_parts (set views i w) ≡ all_parts views
parts_set [] i v w e same = refl
parts_set (x ∷ xs) zero v w e same = let is : x ≡ v = some-injective x v e in ap (λ (n : ℕ). n + all_parts xs) (same ∙ ap (λ (k : Known _). k.parts) (sym is))
parts_set (x ∷ xs) (suc i) v w e same = ap (λ (n : ℕ). x.parts + n) (parts_set xs i v w e same)
