-- What reading a field gives is what was written there, and what was written is read.
use Rattle.std.proofs.Common.{◌≡◌, ℕ, ◌+◌, ◌-◌, ◌*◌, ◌/◌, ◌%◌, ◌^◌, ◌<◌, ◌≤◌, Bool, true, false, cond, ltb, eqb, ℤ, pos, negsuc, List, [], ◌∷◌, ◌++◌, length, get_or, take, drop, append_assoc, Result, Ok, Err, refl, sym, ap, subst, ◌∙◌, arith, inl, inr, ◌⊎◌}
use Rattle.std.specs.Prelude.{◌↔◌, IfOk, IsOkAnd, IfErr, OnErr, FitsSigned}
use Rattle.std.specs.Int.{w32, w64, from_le_bytes}
use Rattle.std.proofs.lemmas.Bool.{cases_lt, cases_Bool, ltb-true, ltb-false, lt-ltb, le-ltb, eqb-true, eqb-false}
use Rattle.std.proofs.lemmas.List.{drop-drop, drop_at, take_at, take-append-drop, length-append, length-drop, length-take, get_or-drop, get_or-take, get_or_past}
use Rattle.std.proofs.lemmas.Nat.{le_bytes_4, le_bytes_8, from_le_bytes-to_le_bytes_4, from_le_bytes-to_le_bytes_8}
use Rattle.byte_fields.specs.declared.number.NumberFault.{NumberFault}
use Rattle.byte_fields.specs.declared.number.NumberFault.TheVariants as faults
use Rattle.byte_fields.specs.declared.error.FieldError.{FieldError}
use Rattle.byte_fields.specs.declared.error.FieldError.TheVariants.{Short, NotShortest}
use Rattle.byte_fields.specs.Spelling.{fixed32_bytes, fixed64_bytes, groups, var_bytes, zigzag_number, zigzag_bytes, text_bytes}
use Rattle.byte_fields.specs.Numbers.{number_at, EndsInNumber, IsLongNumber}
use Rattle.byte_fields.specs.Reading.{Stand, left, AreBytes, IsWithin, ahead, MovesPast, ◌>>=◌, Reads, raw_at, byte_at, fixed32_at, fixed64_at, number_from, var_at, signed_of, zigzag_at}
use Rattle.byte_fields.proofs.NumberLaws.{IsBytes, number_takes, number_again, number_at-short, number_at-long}

-- a field that was read, and where the reader then stands
abbrev pub read_as : {X : Type 0} → X → Stand → Result (X × Stand) FieldError
read_as x t = Ok (x, t)

pub same_read : {X : Type 0} (x y : X) (s t : Stand) → read_as x s ≡ read_as y t → (x ≡ y) × (s ≡ t)
same_read {X} x y s t e =
    let p : (let a : X × Stand = (x, s) in let b : X × Stand = (y, t) in a ≡ b) = cc in
    (ap (λ (z : X × Stand). z.0) p, ap (λ (z : X × Stand). z.1) p)

-- ---- places

-- where these bytes stand next, what follows them stands after them
pub left-ahead : (s : Stand) (field rest : List ℕ) → left s ≡ field ++ rest → left (ahead (length field) s) ≡ rest
left-ahead s field rest e = sym (drop-drop (length field) s.at s.whole) ∙ ap (λ (b : List ℕ). drop (length field) b) e ∙ drop_at field rest (length field) refl

pub passes : (s : Stand) (field rest : List ℕ) → left s ≡ field ++ rest → MovesPast field s (ahead (length field) s)
passes s field rest e = record { spelled = e ∙ ap (λ (r : List ℕ). field ++ r) (sym (left-ahead s field rest e)); place = refl }

-- the place of the rest of the bytes, counted from their end
place_of_rest : (s : Stand) (field rest : List ℕ) → s.at ≤ length s.whole → left s ≡ field ++ rest → length s.whole - length rest ≡ s.at + length field
place_of_rest s field rest le e =
    let h : length s.whole - s.at ≡ length field + length rest = sym (length-drop s.at s.whole) ∙ ap length e ∙ length-append field rest in
    omega arith

pub left_fits : (s : Stand) → AreBytes s.whole → IsBytes (left s)
left_fits s fits i = rw get_or-drop (fits (s.at + i))

-- ---- what a call's answer says

pub only_value : {X : Type 0} (r : Result X FieldError) (old new : Stand) (x : X) (t : Stand) (read : Result (X × Stand) FieldError) → Reads (λ x. x) r old new read → read ≡ read_as x t → r ≡ Ok x
only_value {X} (Ok y) old new x t read given is = ap (λ (z : X). Ok z) (same_read y x new t (sym given ∙ is)).0
only_value (Err e) old new x t read given is = absurd (let bad = sym given.0 ∙ is in cc)

-- The call gave this error exactly where reading gives it.
pub only_error : {X Y : Type 0} (view : X → Y) (r : Result X FieldError) (old new : Stand) (e : FieldError) (read : Result (Y × Stand) FieldError) (P : Type 0) → Reads view r old new read → (read ≡ Err e) ↔ P → (r ≡ Err e) ↔ P
only_error {X} view (Ok x) old new e read P given is = (λ h. absurd (let bad = h in cc), λ p. absurd (let bad = sym given ∙ is.1 p in cc))
only_error {X} view (Err d) old new e read P given is = (
  λ h. let same : d ≡ e = cc in is.0 (given.0 ∙ ap (λ (f : FieldError). Err f) same),
  λ p. let both = sym given.0 ∙ is.1 p in cc,
)

pub errors_are : {X Y : Type 0} (view : X → Y) (r : Result X FieldError) (old new : Stand) (read : Result (Y × Stand) FieldError) (P : FieldError → Type 0) → Reads view r old new read → ((e : FieldError) → read ≡ Err e → P e) → IfErr r P
errors_are view (Ok x) old new read P given all = tt
errors_are view (Err e) old new read P given all = all e given.0

pub stays : {X Y : Type 0} (view : X → Y) (r : Result X FieldError) (old new : Stand) (read : Result (Y × Stand) FieldError) → Reads view r old new read → OnErr r (new ≡ old)
stays view (Ok x) old new read given = tt
stays view (Err e) old new read given = given.1

pub values_are : {X Y : Type 0} (view : X → Y) (r : Result X FieldError) (old new : Stand) (read : Result (Y × Stand) FieldError) (P : X → Type 0) → Reads view r old new read → ((x : X) → read ≡ read_as (view x) new → P x) → IfOk r P
values_are view (Ok x) old new read P given all = all x given
values_are view (Err e) old new read P given all = tt

-- ---- bytes as they are

chosen : {A : Type 0} (b : Bool) (x y z : A) → cond b x y ≡ z → ((b ≡ true) × (x ≡ z)) ⊎ ((b ≡ false) × (y ≡ z))
chosen true x y z e = inl (refl, e)
chosen false x y z e = inr (refl, e)

-- a field of n bytes that was read
pub record Taken (n : ℕ) (s : Stand) (bytes : List ℕ) (t : Stand) : Type 0 where
  pub count : length bytes ≡ n
  pub is : bytes ≡ take n (left s)
  pub passed : MovesPast bytes s t

pub raw_takes : (n : ℕ) (s : Stand) (bytes : List ℕ) (t : Stand) → raw_at n s ≡ read_as bytes t → Taken n s bytes t
unfolding raw_at
raw_takes n s bytes t e =
    elim (chosen (ltb (length (left s)) n) (Err (Short (length s.whole))) (read_as (take n (left s)) (ahead n s)) (read_as bytes t) e) [
      | inl h ↦ absurd (let bad = h.1 in cc)
      | inr h ↦
          let same = same_read (take n (left s)) bytes (ahead n s) t h.1 in
          let enough : n ≤ length (left s) = ltb-false (length (left s)) n h.0 in
          let len : length (take n (left s)) ≡ n = omega (arith, length-take n (left s)) in
          let whole = passes s (take n (left s)) (drop n (left s)) (sym (take-append-drop n (left s))) in
          let there : MovesPast (take n (left s)) s (ahead n s) = subst (λ (k : ℕ). MovesPast (take n (left s)) s (ahead k s)) len whole in
          let counted : Taken n s (take n (left s)) (ahead n s) = record { count = len; is = refl; passed = there } in
          subst (λ (b : List ℕ). Taken n s b t) same.0 (subst (λ (u : Stand). Taken n s (take n (left s)) u) same.1 counted)
    ]

pub raw_again : (s : Stand) (bytes rest : List ℕ) → left s ≡ bytes ++ rest → raw_at (length bytes) s ≡ read_as bytes (ahead (length bytes) s)
unfolding raw_at
raw_again s bytes rest e =
    let enough : ltb (length (left s)) (length bytes) ≡ false = le-ltb _ _ (omega (arith, ap length e, length-append bytes rest)) in
    let front : take (length bytes) (left s) ≡ bytes = ap (λ (b : List ℕ). take (length bytes) b) e ∙ take_at bytes rest (length bytes) refl in
    rw (enough, front) refl

pub raw_short : (n : ℕ) (s : Stand) → (raw_at n s ≡ Err (Short (length s.whole))) ↔ (length (left s) < n)
unfolding raw_at
raw_short n s = (
  λ e. elim (chosen (ltb (length (left s)) n) (Err (Short (length s.whole))) (read_as (take n (left s)) (ahead n s)) (Err (Short (length s.whole))) e) [
    | inl h ↦ ltb-true (length (left s)) n h.0
    | inr h ↦ absurd (let bad = h.1 in cc)
  ],
  λ lt. rw (lt-ltb (length (left s)) n lt) refl,
)

pub raw_errors : (n : ℕ) (s : Stand) (e : FieldError) → raw_at n s ≡ Err e → e ≡ Short (length s.whole)
unfolding raw_at
raw_errors n s d e =
    elim (chosen (ltb (length (left s)) n) (Err (Short (length s.whole))) (read_as (take n (left s)) (ahead n s)) (Err d) e) [
      | inl h ↦ let is = h.1 in cc
      | inr h ↦ absurd (let bad = h.1 in cc)
    ]

pub slices_are : {X Y : Type 0} (view : X → Y) (r : Result X FieldError) (old new : Stand) (y : Y) (read : Result (Y × Stand) FieldError) (t : Stand) → Reads view r old new read → read ≡ read_as y t → IsOkAnd r (λ x. view x ≡ y)
slices_are {X} {Y} view (Ok x) old new y read t given is = (same_read (view x) y new t (sym given ∙ is)).0
slices_are view (Err e) old new y read t given is = absurd (let bad = sym given.0 ∙ is in cc)

bind_ok : {A B : Type 0} (r : Result A FieldError) (f : A → Result B FieldError) (y : B) → (r >>= f) ≡ Ok y → (x : A) × (r ≡ Ok x) × (f x ≡ Ok y)
bind_ok (Ok x) f y e = (x, refl, e)
bind_ok (Err d) f y e = absurd cc

-- a step that can't fail hands on what failed before it
bind_error : {A B : Type 0} (r : Result A FieldError) (f : A → B) (e : FieldError) (P : Type 0) → ((r ≡ Err e) ↔ P) → ((r >>= λ x. Ok (f x)) ≡ Err e) ↔ P
bind_error (Ok x) f e P is = (λ h. absurd (let bad = h in cc), λ p. absurd (let bad = is.1 p in cc))
bind_error (Err d) f e P is = (λ h. is.0 (let same : d ≡ e = cc in ap (λ (z : FieldError). Err z) same), λ p. let h = is.1 p in cc)

bind_errors : {A B : Type 0} (r : Result A FieldError) (f : A → B) (e : FieldError) (P : FieldError → Type 0) → ((d : FieldError) → r ≡ Err d → P d) → (r >>= λ x. Ok (f x)) ≡ Err e → P e
bind_errors (Ok x) f e P all h = absurd (let bad = h in cc)
bind_errors (Err d) f e P all h = let same : d ≡ e = cc in subst P same (all d refl)

IsBytes-take : (n : ℕ) (bytes : List ℕ) → IsBytes bytes → IsBytes (take n bytes)
IsBytes-take n bytes h i =
    elim (cases_lt i n) [
      | inl lt ↦ rw (get_or-take n bytes i 0 lt) (h i)
      | inr le ↦ rw (get_or_past (take n bytes) i 0 (omega (arith, length-take n bytes))) (omega arith)
    ]

-- the bytes of a field that was read
taken_fit : (n : ℕ) (s : Stand) (bytes : List ℕ) (t : Stand) → AreBytes s.whole → Taken n s bytes t → IsBytes bytes
taken_fit n s bytes t fits taken = rw taken.is (IsBytes-take n (left s) (left_fits s fits))

-- ---- a byte

one_cell : (bytes : List ℕ) → length bytes ≡ 1 → bytes ≡ get_or bytes 0 0 ∷ []
one_cell [] e = absurd (omega arith)
one_cell (b ∷ []) e = refl
one_cell (b ∷ c ∷ bytes) e = absurd (omega arith)

pub byte_takes : (s : Stand) → IsWithin s.whole s.at → (new : Stand) (b : ℕ) → byte_at s ≡ read_as b new → MovesPast (b ∷ []) s new
unfolding byte_at
byte_takes s within new b e =
    let h = bind_ok (raw_at 1 s) (λ bytes. Ok (get_or bytes.0 0 0, bytes.1)) (b, new) e in
    let t = raw_takes 1 s h.0.0 h.0.1 h.1 in
    let same = same_read (get_or h.0.0 0 0) b h.0.1 new h.2 in
    let cell : h.0.0 ≡ b ∷ [] = one_cell h.0.0 t.count ∙ ap (λ (x : ℕ). x ∷ []) same.0 in
    subst (λ (u : Stand). MovesPast (b ∷ []) s u) same.1 (subst (λ (f : List ℕ). MovesPast f s h.0.1) cell t.passed)

pub byte_again : (s : Stand) (b : ℕ) (rest : List ℕ) → left s ≡ (b ∷ []) ++ rest → byte_at s ≡ read_as b (ahead 1 s)
unfolding byte_at
byte_again s b rest e = rw (raw_again s (b ∷ []) rest e) refl

nil_below : (bytes : List ℕ) → (length bytes < 1) ↔ (bytes ≡ [])
nil_below [] = (λ _. refl, λ _. omega arith)
nil_below (b ∷ bytes) = (λ lt. absurd (omega arith), λ e. absurd cc)

pub byte_short : (s : Stand) → (byte_at s ≡ Err (Short (length s.whole))) ↔ (left s ≡ [])
unfolding byte_at
byte_short s =
    let r = bind_error (raw_at 1 s) (λ bytes. (get_or bytes.0 0 0, bytes.1)) (Short (length s.whole)) (length (left s) < 1) (raw_short 1 s) in
    let n = nil_below (left s) in
    (λ e. n.0 (r.0 e), λ e. r.1 (n.1 e))

pub byte_errors : (s : Stand) (e : FieldError) → byte_at s ≡ Err e → e ≡ Short (length s.whole)
unfolding byte_at
byte_errors s e h = bind_errors (raw_at 1 s) (λ bytes. (get_or bytes.0 0 0, bytes.1)) e (λ d. d ≡ Short (length s.whole)) (raw_errors 1 s) h

-- ---- fixed numbers

pub fixed32_takes : (s : Stand) → IsWithin s.whole s.at → (new : Stand) (n : ℕ) → fixed32_at s ≡ read_as n new → MovesPast (fixed32_bytes n) s new
unfolding fixed32_at
fixed32_takes s within new n e =
    let h = bind_ok (raw_at 4 s) (λ bytes. Ok (from_le_bytes w32 bytes.0, bytes.1)) (n, new) e in
    let t = raw_takes 4 s h.0.0 h.0.1 h.1 in
    let same = same_read (from_le_bytes w32 h.0.0) n h.0.1 new h.2 in
    let cells : h.0.0 ≡ fixed32_bytes n = sym (le_bytes_4 h.0.0 n t.count (taken_fit 4 s h.0.0 h.0.1 within.bytes_fit t) (sym same.0)) in
    subst (λ (u : Stand). MovesPast (fixed32_bytes n) s u) same.1 (subst (λ (f : List ℕ). MovesPast f s h.0.1) cells t.passed)

pub fixed32_again : (s : Stand) (n : ℕ) (rest : List ℕ) → n < 2 ^ 32 → left s ≡ fixed32_bytes n ++ rest → fixed32_at s ≡ read_as n (ahead 4 s)
unfolding fixed32_at
fixed32_again s n rest lt e =
    let r : raw_at 4 s ≡ read_as (fixed32_bytes n) (ahead 4 s) = raw_again s (fixed32_bytes n) rest e in
    rw r (ap (λ (m : ℕ). read_as m (ahead 4 s)) (from_le_bytes-to_le_bytes_4 n lt))

pub fixed32_short : (s : Stand) → (fixed32_at s ≡ Err (Short (length s.whole))) ↔ (length (left s) < 4)
unfolding fixed32_at
fixed32_short s = bind_error (raw_at 4 s) (λ bytes. (from_le_bytes w32 bytes.0, bytes.1)) (Short (length s.whole)) (length (left s) < 4) (raw_short 4 s)

pub fixed32_errors : (s : Stand) (e : FieldError) → fixed32_at s ≡ Err e → e ≡ Short (length s.whole)
unfolding fixed32_at
fixed32_errors s e h = bind_errors (raw_at 4 s) (λ bytes. (from_le_bytes w32 bytes.0, bytes.1)) e (λ d. d ≡ Short (length s.whole)) (raw_errors 4 s) h

pub fixed64_takes : (s : Stand) → IsWithin s.whole s.at → (new : Stand) (n : ℕ) → fixed64_at s ≡ read_as n new → MovesPast (fixed64_bytes n) s new
unfolding fixed64_at
fixed64_takes s within new n e =
    let h = bind_ok (raw_at 8 s) (λ bytes. Ok (from_le_bytes w64 bytes.0, bytes.1)) (n, new) e in
    let t = raw_takes 8 s h.0.0 h.0.1 h.1 in
    let same = same_read (from_le_bytes w64 h.0.0) n h.0.1 new h.2 in
    let cells : h.0.0 ≡ fixed64_bytes n = sym (le_bytes_8 h.0.0 n t.count (taken_fit 8 s h.0.0 h.0.1 within.bytes_fit t) (sym same.0)) in
    subst (λ (u : Stand). MovesPast (fixed64_bytes n) s u) same.1 (subst (λ (f : List ℕ). MovesPast f s h.0.1) cells t.passed)

pub fixed64_again : (s : Stand) (n : ℕ) (rest : List ℕ) → n < 2 ^ 64 → left s ≡ fixed64_bytes n ++ rest → fixed64_at s ≡ read_as n (ahead 8 s)
unfolding fixed64_at
fixed64_again s n rest lt e =
    let r : raw_at 8 s ≡ read_as (fixed64_bytes n) (ahead 8 s) = raw_again s (fixed64_bytes n) rest e in
    rw r (ap (λ (m : ℕ). read_as m (ahead 8 s)) (from_le_bytes-to_le_bytes_8 n lt))

pub fixed64_short : (s : Stand) → (fixed64_at s ≡ Err (Short (length s.whole))) ↔ (length (left s) < 8)
unfolding fixed64_at
fixed64_short s = bind_error (raw_at 8 s) (λ bytes. (from_le_bytes w64 bytes.0, bytes.1)) (Short (length s.whole)) (length (left s) < 8) (raw_short 8 s)

pub fixed64_errors : (s : Stand) (e : FieldError) → fixed64_at s ≡ Err e → e ≡ Short (length s.whole)
unfolding fixed64_at
fixed64_errors s e h = bind_errors (raw_at 8 s) (λ bytes. (from_le_bytes w64 bytes.0, bytes.1)) e (λ d. d ≡ Short (length s.whole)) (raw_errors 8 s) h

-- ---- numbers in groups

record NumberParts (s : Stand) (read : Result (ℕ × List ℕ) NumberFault) (n : ℕ) (new : Stand) : Type 0 where
  rest : List ℕ
  was : read ≡ (let r : Result (ℕ × List ℕ) NumberFault = Ok (n, rest) in r)
  place : new ≡ record { whole = s.whole; at = length s.whole - length rest }

number_from_parts : (s : Stand) (read : Result (ℕ × List ℕ) NumberFault) (n : ℕ) (new : Stand) → number_from s read ≡ read_as n new → NumberParts s read n new
number_from_parts s (Err fault) n new e = absurd (let bad = e in cc)
number_from_parts s (Ok x) n new e =
    let same = same_read x.0 n (record { whole = s.whole; at = length s.whole - length x.1 }) new e in
    record { rest = x.1; was = ap (λ (m : ℕ). Ok (m, x.1)) same.0; place = sym same.1 }

pub var_takes : (s : Stand) → IsWithin s.whole s.at → (new : Stand) (n : ℕ) → var_at s ≡ read_as n new → MovesPast (var_bytes n) s new
unfolding var_at var_bytes
var_takes s within new n e =
    let p = number_from_parts s (number_at 9 (left s)) n new e in
    let h = number_takes 9 (left s) n p.rest (left_fits s within.bytes_fit) p.was in
    let place : ahead (length (groups 9 n)) s ≡ new = ap (λ (at : ℕ). record { whole = s.whole; at = at }) (sym (place_of_rest s (groups 9 n) p.rest within.no_further h.parts)) ∙ sym p.place in
    subst (λ (u : Stand). MovesPast (groups 9 n) s u) place (passes s (groups 9 n) p.rest h.parts)

pub var_below : (s : Stand) → IsWithin s.whole s.at → (new : Stand) (n : ℕ) → var_at s ≡ read_as n new → n < 2 ^ 64
unfolding var_at
var_below s within new n e =
    let p = number_from_parts s (number_at 9 (left s)) n new e in
    (number_takes 9 (left s) n p.rest (left_fits s within.bytes_fit) p.was).fits

pub var_again : (s : Stand) → s.at ≤ length s.whole → (n : ℕ) (rest : List ℕ) → n < 2 ^ 64 → left s ≡ var_bytes n ++ rest → var_at s ≡ read_as n (ahead (length (var_bytes n)) s)
unfolding var_at var_bytes
var_again s within n rest lt e =
    let place = place_of_rest s (groups 9 n) rest within e in
    ap (λ (b : List ℕ). number_from s (number_at 9 b)) e ∙ ap (number_from s) (number_again 9 n rest lt) ∙ ap (λ (at : ℕ). read_as n (record { whole = s.whole; at = at })) place

placed_short : (s : Stand) (read : Result (ℕ × List ℕ) NumberFault) (P : Type 0) → ((read ≡ Err faults.Short) ↔ P) → (number_from s read ≡ Err (Short (length s.whole))) ↔ P
placed_short s (Ok x) P is = (λ h. absurd (let bad = h in cc), λ p. absurd (let bad = is.1 p in cc))
placed_short s (Err faults.Short) P is = (λ _. is.0 refl, λ _. refl)
placed_short s (Err faults.Long) P is = (λ h. absurd (let bad = h in cc), λ p. absurd (let bad = is.1 p in cc))

placed_long : (s : Stand) (read : Result (ℕ × List ℕ) NumberFault) (P : Type 0) → ((read ≡ Err faults.Long) ↔ P) → (number_from s read ≡ Err (NotShortest s.at)) ↔ P
placed_long s (Ok x) P is = (λ h. absurd (let bad = h in cc), λ p. absurd (let bad = is.1 p in cc))
placed_long s (Err faults.Short) P is = (λ h. absurd (let bad = h in cc), λ p. absurd (let bad = is.1 p in cc))
placed_long s (Err faults.Long) P is = (λ _. is.0 refl, λ _. refl)

placed_errors : (s : Stand) (read : Result (ℕ × List ℕ) NumberFault) (e : FieldError) → number_from s read ≡ Err e → (e ≡ Short (length s.whole)) ⊎ (e ≡ NotShortest s.at)
placed_errors s (Ok x) e h = absurd (let bad = h in cc)
placed_errors s (Err faults.Short) e h = inl (let bad = h in cc)
placed_errors s (Err faults.Long) e h = inr (let bad = h in cc)

pub var_short : (s : Stand) → (var_at s ≡ Err (Short (length s.whole))) ↔ EndsInNumber 9 (left s)
unfolding var_at
var_short s = placed_short s (number_at 9 (left s)) (EndsInNumber 9 (left s)) (number_at-short 9 (left s))

pub var_long : (s : Stand) → IsWithin s.whole s.at → (var_at s ≡ Err (NotShortest s.at)) ↔ IsLongNumber 9 (left s)
unfolding var_at
var_long s within = placed_long s (number_at 9 (left s)) (IsLongNumber 9 (left s)) (number_at-long 9 (left s) (left_fits s within.bytes_fit))

pub var_errors : (s : Stand) (e : FieldError) → var_at s ≡ Err e → (e ≡ Short (length s.whole)) ⊎ (e ≡ NotShortest s.at)
unfolding var_at
var_errors s e h = placed_errors s (number_at 9 (left s)) e h

-- ---- signed numbers

zigzag_number-signed : (n : ℕ) → zigzag_number (signed_of n) ≡ n
zigzag_number-signed n =
    elim (cases_Bool (eqb (n % 2) 0)) [
      | inl even ↦ let z : n % 2 ≡ 0 = eqb-true (n % 2) 0 even in rw even (omega arith)
      | inr odd ↦ let z = eqb-false (n % 2) 0 odd in rw odd (omega (arith, z))
    ]

signed_of-zigzag : (z : ℤ) → signed_of (zigzag_number z) ≡ z
signed_of-zigzag (pos n) =
    let even : 2 * n % 2 ≡ 0 = omega arith in
    let half : 2 * n / 2 ≡ n = omega arith in
    rw (even, half) refl
signed_of-zigzag (negsuc n) =
    let odd : (2 * n + 1) % 2 ≡ 1 = omega arith in
    let half : (2 * n + 1) / 2 ≡ n = omega arith in
    rw (odd, half) refl

pub zigzag_takes : (s : Stand) → IsWithin s.whole s.at → (new : Stand) (z : ℤ) → zigzag_at s ≡ read_as z new → MovesPast (zigzag_bytes z) s new
unfolding zigzag_at
zigzag_takes s within new z e =
    let h = bind_ok (var_at s) (λ n. Ok (signed_of n.0, n.1)) (z, new) e in
    let same = same_read (signed_of h.0.0) z h.0.1 new h.2 in
    let number : h.0.0 ≡ zigzag_number z = sym (zigzag_number-signed h.0.0) ∙ ap zigzag_number same.0 in
    let t = var_takes s within h.0.1 h.0.0 h.1 in
    subst (λ (u : Stand). MovesPast (zigzag_bytes z) s u) same.1 (subst (λ (n : ℕ). MovesPast (var_bytes n) s h.0.1) number t)

zigzag_fits : (z : ℤ) → FitsSigned w64 z → zigzag_number z < 2 ^ 64
zigzag_fits (pos n) fits = omega (arith, fits.sfits)
zigzag_fits (negsuc n) fits = omega (arith, fits.sfits)

pub zigzag_again : (s : Stand) → s.at ≤ length s.whole → (z : ℤ) (rest : List ℕ) → FitsSigned w64 z → left s ≡ zigzag_bytes z ++ rest → zigzag_at s ≡ read_as z (ahead (length (zigzag_bytes z)) s)
unfolding zigzag_at
zigzag_again s within z rest fits e = rw (var_again s within (zigzag_number z) rest (zigzag_fits z fits) e) (ap (λ (y : ℤ). read_as y (ahead (length (zigzag_bytes z)) s)) (signed_of-zigzag z))

pub zigzag_short : (s : Stand) → (zigzag_at s ≡ Err (Short (length s.whole))) ↔ EndsInNumber 9 (left s)
unfolding zigzag_at
zigzag_short s = bind_error (var_at s) (λ n. (signed_of n.0, n.1)) (Short (length s.whole)) (EndsInNumber 9 (left s)) (var_short s)

pub zigzag_long : (s : Stand) → IsWithin s.whole s.at → (zigzag_at s ≡ Err (NotShortest s.at)) ↔ IsLongNumber 9 (left s)
unfolding zigzag_at
zigzag_long s within = bind_error (var_at s) (λ n. (signed_of n.0, n.1)) (NotShortest s.at) (IsLongNumber 9 (left s)) (var_long s within)

pub zigzag_errors : (s : Stand) (e : FieldError) → zigzag_at s ≡ Err e → (e ≡ Short (length s.whole)) ⊎ (e ≡ NotShortest s.at)
unfolding zigzag_at
zigzag_errors s e h = bind_errors (var_at s) (λ n. (signed_of n.0, n.1)) e (λ d. (d ≡ Short (length s.whole)) ⊎ (d ≡ NotShortest s.at)) (var_errors s) h

-- ---- what a call of the reader comes to

pub record RawAnswer {X : Type 0} (view : X → List ℕ) (n : ℕ) (r : Result X FieldError) (old new : Stand) : Type 0 where
  pub value : IfOk r (λ x. (length (view x) ≡ n) × MovesPast (view x) old new)
  pub only : (bytes rest : List ℕ) → length bytes ≡ n → left old ≡ bytes ++ rest → IsOkAnd r (λ x. view x ≡ bytes)
  pub short : (r ≡ Err (Short (length old.whole))) ↔ (length (left old) < n)
  pub errors : IfErr r (λ e. e ≡ Short (length old.whole))

pub raw_answer : {X : Type 0} (view : X → List ℕ) (n : ℕ) (r : Result X FieldError) (old new : Stand) → Reads view r old new (raw_at n old) → RawAnswer view n r old new
raw_answer view n r old new reads = record {
  value = values_are view r old new (raw_at n old) (λ x. (length (view x) ≡ n) × MovesPast (view x) old new) reads (λ x e. let t = raw_takes n old (view x) new e in (t.count, t.passed));
  only = λ bytes rest len e. slices_are view r old new bytes (raw_at n old) (ahead (length bytes) old) reads (subst (λ (k : ℕ). raw_at k old ≡ read_as bytes (ahead (length bytes) old)) len (raw_again old bytes rest e));
  short = only_error view r old new (Short (length old.whole)) (raw_at n old) (length (left old) < n) reads (raw_short n old);
  errors = errors_are view r old new (raw_at n old) (λ e. e ≡ Short (length old.whole)) reads (raw_errors n old);
}

pub record Fixed32Answer (r : Result ℕ FieldError) (old new : Stand) : Type 0 where
  pub value : IfOk r (λ n. MovesPast (fixed32_bytes n) old new)
  pub only : (n : ℕ) (rest : List ℕ) → n < 2 ^ 32 → left old ≡ fixed32_bytes n ++ rest → r ≡ Ok n
  pub short : (r ≡ Err (Short (length old.whole))) ↔ (length (left old) < 4)
  pub errors : IfErr r (λ e. e ≡ Short (length old.whole))

pub fixed32_answer : (r : Result ℕ FieldError) (old new : Stand) → IsWithin old.whole old.at → Reads (λ x. x) r old new (fixed32_at old) → Fixed32Answer r old new
fixed32_answer r old new within reads = record {
  value = values_are (λ x. x) r old new (fixed32_at old) (λ n. MovesPast (fixed32_bytes n) old new) reads (fixed32_takes old within new);
  only = λ n rest lt e. only_value r old new n (ahead 4 old) (fixed32_at old) reads (fixed32_again old n rest lt e);
  short = only_error (λ x. x) r old new (Short (length old.whole)) (fixed32_at old) (length (left old) < 4) reads (fixed32_short old);
  errors = errors_are (λ x. x) r old new (fixed32_at old) (λ e. e ≡ Short (length old.whole)) reads (fixed32_errors old);
}

pub record Fixed64Answer (r : Result ℕ FieldError) (old new : Stand) : Type 0 where
  pub value : IfOk r (λ n. MovesPast (fixed64_bytes n) old new)
  pub only : (n : ℕ) (rest : List ℕ) → n < 2 ^ 64 → left old ≡ fixed64_bytes n ++ rest → r ≡ Ok n
  pub short : (r ≡ Err (Short (length old.whole))) ↔ (length (left old) < 8)
  pub errors : IfErr r (λ e. e ≡ Short (length old.whole))

pub fixed64_answer : (r : Result ℕ FieldError) (old new : Stand) → IsWithin old.whole old.at → Reads (λ x. x) r old new (fixed64_at old) → Fixed64Answer r old new
fixed64_answer r old new within reads = record {
  value = values_are (λ x. x) r old new (fixed64_at old) (λ n. MovesPast (fixed64_bytes n) old new) reads (fixed64_takes old within new);
  only = λ n rest lt e. only_value r old new n (ahead 8 old) (fixed64_at old) reads (fixed64_again old n rest lt e);
  short = only_error (λ x. x) r old new (Short (length old.whole)) (fixed64_at old) (length (left old) < 8) reads (fixed64_short old);
  errors = errors_are (λ x. x) r old new (fixed64_at old) (λ e. e ≡ Short (length old.whole)) reads (fixed64_errors old);
}

pub record ByteAnswer (r : Result ℕ FieldError) (old new : Stand) : Type 0 where
  pub value : IfOk r (λ b. MovesPast (b ∷ []) old new)
  pub only : (b : ℕ) (rest : List ℕ) → left old ≡ (b ∷ []) ++ rest → r ≡ Ok b
  pub short : (r ≡ Err (Short (length old.whole))) ↔ (left old ≡ [])
  pub errors : IfErr r (λ e. e ≡ Short (length old.whole))

pub byte_answer : (r : Result ℕ FieldError) (old new : Stand) → IsWithin old.whole old.at → Reads (λ x. x) r old new (byte_at old) → ByteAnswer r old new
byte_answer r old new within reads = record {
  value = values_are (λ x. x) r old new (byte_at old) (λ b. MovesPast (b ∷ []) old new) reads (byte_takes old within new);
  only = λ b rest e. only_value r old new b (ahead 1 old) (byte_at old) reads (byte_again old b rest e);
  short = only_error (λ x. x) r old new (Short (length old.whole)) (byte_at old) (left old ≡ []) reads (byte_short old);
  errors = errors_are (λ x. x) r old new (byte_at old) (λ e. e ≡ Short (length old.whole)) reads (byte_errors old);
}

pub record VarAnswer (r : Result ℕ FieldError) (old new : Stand) : Type 0 where
  pub value : IfOk r (λ n. MovesPast (var_bytes n) old new)
  pub only : (n : ℕ) (rest : List ℕ) → n < 2 ^ 64 → left old ≡ var_bytes n ++ rest → r ≡ Ok n
  pub short : (r ≡ Err (Short (length old.whole))) ↔ EndsInNumber 9 (left old)
  pub not_shortest : (r ≡ Err (NotShortest old.at)) ↔ IsLongNumber 9 (left old)
  pub errors : IfErr r (λ e. (e ≡ Short (length old.whole)) ⊎ (e ≡ NotShortest old.at))

pub var_answer : (r : Result ℕ FieldError) (old new : Stand) → IsWithin old.whole old.at → Reads (λ x. x) r old new (var_at old) → VarAnswer r old new
var_answer r old new within reads = record {
  value = values_are (λ x. x) r old new (var_at old) (λ n. MovesPast (var_bytes n) old new) reads (var_takes old within new);
  only = λ n rest fits e. only_value r old new n (ahead (length (var_bytes n)) old) (var_at old) reads (var_again old within.no_further n rest fits e);
  short = only_error (λ x. x) r old new (Short (length old.whole)) (var_at old) (EndsInNumber 9 (left old)) reads (var_short old);
  not_shortest = only_error (λ x. x) r old new (NotShortest old.at) (var_at old) (IsLongNumber 9 (left old)) reads (var_long old within);
  errors = errors_are (λ x. x) r old new (var_at old) (λ e. (e ≡ Short (length old.whole)) ⊎ (e ≡ NotShortest old.at)) reads (var_errors old);
}

pub record ZigzagAnswer (r : Result ℤ FieldError) (old new : Stand) : Type 0 where
  pub value : IfOk r (λ n. MovesPast (zigzag_bytes n) old new)
  pub only : (n : ℤ) (rest : List ℕ) → FitsSigned w64 n → left old ≡ zigzag_bytes n ++ rest → r ≡ Ok n
  pub short : (r ≡ Err (Short (length old.whole))) ↔ EndsInNumber 9 (left old)
  pub not_shortest : (r ≡ Err (NotShortest old.at)) ↔ IsLongNumber 9 (left old)
  pub errors : IfErr r (λ e. (e ≡ Short (length old.whole)) ⊎ (e ≡ NotShortest old.at))

pub zigzag_answer : (r : Result ℤ FieldError) (old new : Stand) → IsWithin old.whole old.at → Reads (λ x. x) r old new (zigzag_at old) → ZigzagAnswer r old new
zigzag_answer r old new within reads = record {
  value = values_are (λ x. x) r old new (zigzag_at old) (λ n. MovesPast (zigzag_bytes n) old new) reads (zigzag_takes old within new);
  only = λ n rest fits e. only_value r old new n (ahead (length (zigzag_bytes n)) old) (zigzag_at old) reads (zigzag_again old within.no_further n rest fits e);
  short = only_error (λ x. x) r old new (Short (length old.whole)) (zigzag_at old) (EndsInNumber 9 (left old)) reads (zigzag_short old);
  not_shortest = only_error (λ x. x) r old new (NotShortest old.at) (zigzag_at old) (IsLongNumber 9 (left old)) reads (zigzag_long old within);
  errors = errors_are (λ x. x) r old new (zigzag_at old) (λ e. (e ≡ Short (length old.whole)) ⊎ (e ≡ NotShortest old.at)) reads (zigzag_errors old);
}

-- ---- one value to an encoding

ok_cells : {X : Type 0} (x y : X) (s t : List ℕ) (F : Type 0) → (let a : Result (X × List ℕ) F = Ok (x, s) in let b : Result (X × List ℕ) F = Ok (y, t) in a ≡ b) → (x ≡ y) × (s ≡ t)
ok_cells {X} x y s t F e =
    let p : (let a : X × List ℕ = (x, s) in let b : X × List ℕ = (y, t) in a ≡ b) = cc in
    (ap (λ (z : X × List ℕ). z.0) p, ap (λ (z : X × List ℕ). z.1) p)

pub var_one : (m n : ℕ) (x y : List ℕ) → m < 2 ^ 64 → n < 2 ^ 64 → var_bytes m ++ x ≡ var_bytes n ++ y → (m ≡ n) × (x ≡ y)
unfolding var_bytes
var_one m n x y fm fn e = ok_cells m n x y NumberFault (sym (number_again 9 m x fm) ∙ ap (number_at 9) e ∙ number_again 9 n y fn)

pub zigzag_one : (m n : ℤ) (x y : List ℕ) → FitsSigned w64 m → FitsSigned w64 n → zigzag_bytes m ++ x ≡ zigzag_bytes n ++ y → (m ≡ n) × (x ≡ y)
zigzag_one m n x y fm fn e =
    let h = var_one (zigzag_number m) (zigzag_number n) x y (zigzag_fits m fm) (zigzag_fits n fn) e in
    (sym (signed_of-zigzag m) ∙ ap signed_of h.0 ∙ signed_of-zigzag n, h.1)

-- two fronts of one length
same_fronts : (a b x y : List ℕ) → length a ≡ length b → a ++ x ≡ b ++ y → (a ≡ b) × (x ≡ y)
same_fronts a b x y len e = (
  sym (take_at a x (length a) refl) ∙ ap (λ (z : List ℕ). take (length a) z) e ∙ take_at b y (length a) (sym len),
  sym (drop_at a x (length a) refl) ∙ ap (λ (z : List ℕ). drop (length a) z) e ∙ drop_at b y (length a) (sym len),
)

pub text_one : (s t x y : List ℕ) → length s < 2 ^ 64 → length t < 2 ^ 64 → text_bytes s ++ x ≡ text_bytes t ++ y → (s ≡ t) × (x ≡ y)
text_one s t x y fs ft e =
    let h = var_one (length s) (length t) (s ++ x) (t ++ y) fs ft (sym (append_assoc (var_bytes (length s)) s x) ∙ e ∙ append_assoc (var_bytes (length t)) t y) in
    same_fronts s t x y h.0 h.1

pub fixed32_one : (m n : ℕ) (x y : List ℕ) → m < 2 ^ 32 → n < 2 ^ 32 → fixed32_bytes m ++ x ≡ fixed32_bytes n ++ y → (m ≡ n) × (x ≡ y)
fixed32_one m n x y fm fn e =
    let h = same_fronts (fixed32_bytes m) (fixed32_bytes n) x y refl e in
    (sym (from_le_bytes-to_le_bytes_4 m fm) ∙ ap (from_le_bytes w32) h.0 ∙ from_le_bytes-to_le_bytes_4 n fn, h.1)

pub fixed64_one : (m n : ℕ) (x y : List ℕ) → m < 2 ^ 64 → n < 2 ^ 64 → fixed64_bytes m ++ x ≡ fixed64_bytes n ++ y → (m ≡ n) × (x ≡ y)
fixed64_one m n x y fm fn e =
    let h = same_fronts (fixed64_bytes m) (fixed64_bytes n) x y refl e in
    (sym (from_le_bytes-to_le_bytes_8 m fm) ∙ ap (from_le_bytes w64) h.0 ∙ from_le_bytes-to_le_bytes_8 n fn, h.1)
