-- Looks that are taken and ended.
use Rattle.std.proofs.Common.{◌≡◌, ℕ, ◌+◌, ◌<◌, ◌≤◌, ◌==◌, zero, suc, Bool, true, false, List, [], ◌∷◌, ◌++◌, Bor, Option, Some, None, option_map, map, length, get_or, refl, sym, ◌∙◌, ap, subst, arith, append-nil, append_assoc, if◌then◌else◌}
use Rattle.std.specs.Prelude.{set, ◌||◌, IfNone, IfSome}
use Rattle.std.proofs.lemmas.List.{map-append, map-set, set_at, set-get_or, get_or_at, get_or-map, get_or_past, get_or_read, length_push, length-append, length-map}
use Rattle.std.proofs.lemmas.Option.{same_Some}
use Rattle.std.specs.List.{list_any}
use Rattle.std.specs.Option.{option_copied}
use Rattle.block_info.specs.InfoParts.{InfoParts}
use Rattle.store_model.specs.Event.{Event, Reply}
use Rattle.store_model.specs.Event.Event.{Done}
use Rattle.store_model.specs.Event.Reply.{Count, Fine, Nothing, Flushing, Compacting, Looked, Page, Refused}
use Rattle.store_model.specs.Holds.{Hold, ends, holds_after}
use Rattle.store_model.specs.Holds.Hold.{OpenLook}
use Rattle.store_model.proofs.Numbers.{equal_itself}
use Rattle.store_model.specs.State.{is_among}
use Rattle.store_state.specs.Given.{info_files, look_of}
use Rattle.store_state.specs.Meaning.{Meaning, Called, IsOpen}
use Rattle.store_state.proofs.HoldLaws.{stays_open, opens_new}
use Rattle.store_state.specs.declared.jobs.Look.{Look}
use Rattle.store_state.specs.Made.{Call, AreMade, call}
use Rattle.client_run.specs.Calls.{Looks, after_call, after_calls, look_at, taken, unless_ended}
use Rattle.client_run.specs.Taken.{AreOpen, NamesNo, looks_of}
use Rattle.client_run.specs.Walked.{Walked}

-- ---- what is open stays open

-- a look that is open is one of the port's
pub open_at : {P : Type 0} (meaning : Meaning P) (port : P) (number : ℕ) (looks : Looks) (look : Hold) → look_at number looks ≡ Some look
    → AreOpen meaning port looks → IsOpen meaning port look
open_at meaning port number [] look e h = let bad : ⊥ = cc in absurd bad
open_at meaning port zero (None ∷ looks) look e h = let bad : ⊥ = cc in absurd bad
open_at meaning port zero (Some x ∷ looks) look e h = subst (IsOpen meaning port) (same_Some x look e) h.0
open_at meaning port (suc n) (None ∷ looks) look e h = open_at meaning port n looks look e h
open_at meaning port (suc n) (Some x ∷ looks) look e h = open_at meaning port n looks look e h.1

open-append : {P : Type 0} (meaning : Meaning P) (port : P) (front back : Looks) → AreOpen meaning port front → AreOpen meaning port back
    → AreOpen meaning port (front ++ back)
open-append meaning port [] back h k = k
open-append meaning port (None ∷ looks) back h k = open-append meaning port looks back h k
open-append meaning port (Some x ∷ looks) back h k = (h.0, open-append meaning port looks back h.1 k)

kept : {P : Type 0} (meaning : Meaning P) (old new : P) (event : Event) (reply : Reply) (looks : Looks) → Called meaning old event reply new
    → AreOpen meaning old looks → AreOpen meaning new (map (unless_ended (call event reply)) looks)
kept meaning old new event reply [] called h = h
kept meaning old new event reply (None ∷ looks) called h = kept meaning old new event reply looks called h
kept meaning old new event reply (Some x ∷ looks) called h =
    by_test (ends event reply x) refl (kept meaning old new event reply looks called h.1)
  where
    by_test : (t : Bool) → ends event reply x ≡ t → AreOpen meaning new (map (unless_ended (call event reply)) looks)
        → AreOpen meaning new ((if t then None else Some x) ∷ map (unless_ended (call event reply)) looks)
    by_test true e ih = ih
    by_test false e ih = (stays_open meaning old new event reply x called h.0 e, ih)

taken_open : {P : Type 0} (meaning : Meaning P) (old new : P) (event : Event) (reply : Reply) → Called meaning old event reply new
    → ((held : List Hold) × meaning.holds old held) → AreOpen meaning new (taken reply)
taken_open meaning old new event (Looked look) called holds =
    (opens_new meaning old new event (Looked look) (OpenLook look) called holds (0, omega arith, refl), tt)
taken_open meaning old new event (Count n) called holds = tt
taken_open meaning old new event Fine called holds = tt
taken_open meaning old new event Nothing called holds = tt
taken_open meaning old new event (Flushing job) called holds = tt
taken_open meaning old new event (Compacting job) called holds = tt
taken_open meaning old new event (Page bytes) called holds = tt
taken_open meaning old new event (Refused why) called holds = tt

open_after_call : {P : Type 0} (meaning : Meaning P) (old new : P) (c : Call) (looks : Looks) → Called meaning old c.event c.reply new
    → ((held : List Hold) × meaning.holds old held) → AreOpen meaning old looks → AreOpen meaning new (after_call c looks)
open_after_call meaning old new c looks called holds open_looks =
    open-append meaning new (map (unless_ended c) looks) (taken c.reply)
    (kept meaning old new c.event c.reply looks called open_looks)
    (taken_open meaning old new c.event c.reply called holds)

-- the looks that calls leave open are the port's
pub open_after : {P : Type 0} (meaning : Meaning P) (old new : P) (calls : List Call) (looks : Looks) → AreMade meaning old calls new
    → ((held : List Hold) × meaning.holds old held) → AreOpen meaning old looks → AreOpen meaning new (after_calls calls looks)
open_after {P} meaning old new [] looks h holds open_looks = subst (λ (x : P). AreOpen meaning x looks) (sym h) open_looks
open_after meaning old new (c ∷ cs) looks h holds open_looks =
    open_after meaning h.0 new cs (after_call c looks) h.2 (holds_after c.event c.reply holds.0, h.1.holds holds.0 holds.1)
    (open_after_call meaning old h.0 c looks h.1 holds open_looks)

-- ---- a call that ends nothing

pub none_ended : (event : Event) (reply : Reply) (looks : Looks) → ((hold : Hold) → ends event reply hold ≡ false)
    → map (unless_ended (call event reply)) looks ≡ looks
none_ended event reply [] none = refl
none_ended event reply (None ∷ looks) none = ap (λ (ls : Looks). None ∷ ls) (none_ended event reply looks none)
none_ended event reply (Some x ∷ looks) none =
    ap (λ (o : Option Hold). o ∷ map (unless_ended (call event reply)) looks) (ap (λ (t : Bool). if t then None else Some x) (none x))
    ∙ ap (λ (ls : Looks). Some x ∷ ls) (none_ended event reply looks none)

-- ---- the looks under a pin

same_ended : (c : Call) (looks : Looks) (n : ℕ) → unless_ended c (get_or looks n None) ≡ None
    → map (unless_ended c) (set looks n None) ≡ map (unless_ended c) looks
same_ended c [] n e = refl
same_ended c (x ∷ xs) zero e = ap (λ (y : Option Hold). y ∷ map (unless_ended c) xs) (sym e)
same_ended c (x ∷ xs) (suc n) e = ap (λ (ys : Looks). unless_ended c x ∷ ys) (same_ended c xs n e)

-- a look is under its own pin
own_pin : (look : Look) → unless_ended (call (Done look.pin.number) Fine) (Some (look_of look)) ≡ None
own_pin look = ap (λ (t : Bool). if t then None else Some (look_of look)) (equal_itself look.pin.number)

-- A look is taken out, and then all looks under its pin are ended.
pub ended_with : (items later : List (Option Look)) (n : ℕ) (look : Look) → get_or (looks_of items) n None ≡ Some (look_of look)
    → looks_of later ≡ map (unless_ended (call (Done look.pin.number) Fine)) (looks_of (set items n None))
    → looks_of later ≡ map (unless_ended (call (Done look.pin.number) Fine)) (looks_of items)
ended_with items later n look at h =
    h ∙ (ap (map (unless_ended (call (Done look.pin.number) Fine))) (map-set (option_map look_of) items n None)
    ∙ same_ended (call (Done look.pin.number) Fine) (looks_of items) n (ap (unless_ended (call (Done look.pin.number) Fine)) at ∙ own_pin look))

pub walk_begins : (change : Option Hold → Option Hold) (looks : Looks) → Walked change 0 looks looks
walk_begins change looks = ([], looks, refl, refl, refl)

goes_on : (change : Option Hold → Option Hold) (at : ℕ) (first now later front back : Looks) → first ≡ front ++ back → length front ≡ at → now ≡ map change front ++ back
    → at < length now → later ≡ set now at (change (get_or now at None)) → Walked change (at + 1) first later
goes_on change at first now later front [] are len is less e = absurd (too_far (ap length is) (length-append (map change front) []) (length-map front change) len less)
  where
    too_far : length now ≡ length (map change front ++ []) → length (map change front ++ []) ≡ length (map change front) + 0 → length (map change front) ≡ length front
        → length front ≡ at → at < length now → ⊥
    too_far a b c d f = omega (arith, a, b, c, d, f)
goes_on change at first now later front (x ∷ back) are len is less e =
    let mapped : length (map change front) ≡ at = length-map front change ∙ len in
    let here : get_or now at None ≡ x = ap (λ (ls : Looks). get_or ls at None) is ∙ get_or_at (map change front) x back None at mapped in (
      front ++ x ∷ [],
      back,
      are ∙ sym (append_assoc front (x ∷ []) back),
      length_push front x ∙ ap (λ (k : ℕ). k + 1) len,
      e ∙ (ap (λ (y : Option Hold). set now at (change y)) here ∙ (ap (λ (ls : Looks). set ls at (change x)) is
          ∙ (set_at (map change front) x back (change x) at mapped
          ∙ (sym (append_assoc (map change front) (change x ∷ []) back) ∙ ap (λ (ls : Looks). ls ++ back) (sym (map-append change front (x ∷ []))))))),
    )

pub walk_goes_on : (change : Option Hold → Option Hold) (at : ℕ) (first now later : Looks) → Walked change at first now → at < length now
    → later ≡ set now at (change (get_or now at None)) → Walked change (at + 1) first later
walk_goes_on change at first now later w less e = goes_on change at first now later w.0 w.1 w.2 w.3 w.4 less e

-- a walk keeps the number of looks
pub walk_length : (change : Option Hold → Option Hold) (at : ℕ) (first now : Looks) → Walked change at first now → length now ≡ length first
walk_length change at first now w =
    ap length w.4 ∙ (length-append (map change w.0) w.1 ∙ (ap (λ (k : ℕ). k + length w.1) (length-map w.0 change) ∙ (sym (length-append w.0 w.1) ∙ sym (ap length w.2))))

ends_all : (change : Option Hold → Option Hold) (at : ℕ) (first now front back : Looks) → first ≡ front ++ back → length front ≡ at → now ≡ map change front ++ back
    → length first ≡ at → now ≡ map change first
ends_all change at first now front [] are len is all = is ∙ (append-nil (map change front) ∙ ap (map change) (sym (are ∙ append-nil front)))
ends_all change at first now front (x ∷ back) are len is all = absurd (too_far (ap length are) (length-append front (x ∷ back)) len all)
  where
    too_far : length first ≡ length (front ++ x ∷ back) → length (front ++ x ∷ back) ≡ length front + suc (length back) → length front ≡ at → length first ≡ at → ⊥
    too_far a b c d = omega (arith, a, b, c, d)

pub walk_ends : (change : Option Hold → Option Hold) (at : ℕ) (first now : Looks) → Walked change at first now → length first ≡ at
    → now ≡ map change first
walk_ends change at first now w all = ends_all change at first now w.0 w.1 w.2 w.3 w.4 all

-- one look of a vector is changed
pub one_changed : (change : Option Hold → Option Hold) (items : List (Option Look)) (at : ℕ) (old new : Option Look) → at < length items → old ≡ get_or items at old
    → option_map look_of new ≡ change (option_map look_of old)
    → looks_of (set items at new) ≡ set (looks_of items) at (change (get_or (looks_of items) at None))
one_changed change items at old new less is e =
    let here : option_map look_of old ≡ get_or (looks_of items) at None =
    ap (option_map look_of) (get_or_read items at old less is None) ∙ sym (get_or-map (option_map look_of) items at None None less) in
    map-set (option_map look_of) items at new ∙ ap (λ (y : Option Hold). set (looks_of items) at y) (e ∙ ap change here)

-- ---- what stands at a number

pub past_all : (items : List (Option Look)) (n : ℕ) → length items ≤ n → look_at n (looks_of items) ≡ None
past_all items n far = let same : length (looks_of items) ≡ length items = length-map items (option_map look_of) in
    get_or_past (looks_of items) n None (omega (arith, same, far))

stands_at : (items : List (Option Look)) (n : ℕ) (x : Option Look) → n < length items → x ≡ get_or items n x → look_at n (looks_of items) ≡ option_map look_of x
stands_at items n x less is = get_or-map (option_map look_of) items n None None less ∙ ap (option_map look_of) (sym (get_or_read items n x less is None))

pub none_at : (items : List (Option Look)) (n : ℕ) (x : Option Look) → n < length items → x ≡ get_or items n x → x ≡ None
    → (look_at n (looks_of items) ≡ None) × (looks_of (set items n None) ≡ looks_of items)
none_at items n x less is none = (
  stands_at items n x less is ∙ ap (option_map look_of) none,
  ap looks_of (ap (λ (y : Option Look). set items n y) (sym none ∙ get_or_read items n x less is None) ∙ set-get_or items n None),
)

pub some_at : (items : List (Option Look)) (n : ℕ) (x : Option Look) (look : Look) → n < length items → x ≡ get_or items n x → x ≡ Some look
    → look_at n (looks_of items) ≡ Some (look_of look)
some_at items n x look less is some = stands_at items n x less is ∙ ap (option_map look_of) some

-- the same of a reference to what stands there
pub none_found : (items : List (Option Look)) (n : ℕ) (x : Option Look) (found : Option (Bor Look)) → n < length items → x ≡ get_or items n x → option_copied found ≡ x
    → IfNone found (look_at n (looks_of items) ≡ None)
none_found items n x None less is e = let at = none_at items n x less is (sym e) in at.0
none_found items n x (Some b) less is e = tt

pub some_found : (items : List (Option Look)) (n : ℕ) (x : Option Look) (found : Option (Bor Look)) → n < length items → x ≡ get_or items n x → option_copied found ≡ x
    → IfSome found (λ b. look_at n (looks_of items) ≡ Some (look_of b.now))
some_found items n x None less is e = tt
some_found items n x (Some b) less is e = some_at items n x b.now less is (sym e)

any_among : (block : ℕ) (infos : List InfoParts) → list_any (λ (info : InfoParts). info.file == block) infos ≡ is_among block (info_files infos)
any_among block [] = refl
any_among block (x ∷ xs) = ap (λ (t : Bool). (x.file == block) || t) (any_among block xs)

pub among_names : (block : ℕ) (infos : List InfoParts) (t b : Bool) → t ≡ list_any (λ (info : InfoParts). info.file == block) infos → t ≡ b
    → is_among block (info_files infos) ≡ b
among_names block infos t b is e = sym (any_among block infos) ∙ (sym is ∙ e)

-- no look names the block where none stands at the number, or its pin doesn't
pub none_names : (items : List (Option Look)) (n block : ℕ) → look_at n (looks_of items) ≡ None → NamesNo (look_at n (looks_of items)) block
none_names items n block none = subst (λ (l : Option Hold). NamesNo l block) (sym none) tt

pub other_names : (items : List (Option Look)) (n block : ℕ) (look : Look) → look_at n (looks_of items) ≡ Some (look_of look)
    → is_among block (info_files look.pin.blocks) ≡ false → NamesNo (look_at n (looks_of items)) block
other_names items n block look some other = subst (λ (l : Option Hold). NamesNo l block) (sym some) other

-- a walk over vectors of looks
pub pin_step : (change : Option Hold → Option Hold) (first items : List (Option Look)) (at : ℕ) (old new : Option Look) → Walked change at (looks_of first) (looks_of items)
    → at < length first → old ≡ get_or items at old → option_map look_of new ≡ change (option_map look_of old)
    → Walked change (at + 1) (looks_of first) (looks_of (set items at new))
pin_step change first items at old new w less is e =
    let here : length (looks_of items) ≡ length items = length-map items (option_map look_of) in
    let there : length (looks_of first) ≡ length first = length-map first (option_map look_of) in
    let same : length (looks_of items) ≡ length (looks_of first) = walk_length change at (looks_of first) (looks_of items) w in
    walk_goes_on change at (looks_of first) (looks_of items) (looks_of (set items at new)) w (omega (arith, less, here, there, same))
    (one_changed change items at old new (omega (arith, less, here, there, same)) is e)

-- a look is taken out of a vector, and then all looks under its pin are ended
pub taken_out : (items later : List (Option Look)) (n : ℕ) (x emptied : Option Look) (look : Look) → n < length items → x ≡ get_or items n x → x ≡ Some look → emptied ≡ None
    → looks_of later ≡ map (unless_ended (call (Done look.pin.number) Fine)) (looks_of (set items n emptied))
    → looks_of later ≡ map (unless_ended (call (Done look.pin.number) Fine)) (looks_of items)
taken_out items later n x emptied look less is some none h =
    ended_with items later n look (some_at items n x look less is some)
    (h ∙ ap (λ (y : Option Look). map (unless_ended (call (Done look.pin.number) Fine)) (looks_of (set items n y))) none)

pub looks_push : (items later : List (Option Look)) (look : Look) → later ≡ items ++ Some look ∷ [] → looks_of later ≡ looks_of items ++ Some (look_of look) ∷ []
looks_push items later look e = ap looks_of e ∙ map-append (option_map look_of) items (Some look ∷ [])
