-- A number that is read is the number that was written, and what was written is read again.
use Rattle.std.proofs.Common.{◌≡◌, ℕ, zero, suc, ◌+◌, ◌-◌, ◌*◌, ◌/◌, ◌%◌, ◌^◌, ◌<◌, ◌≤◌, Bool, true, false, cond, ltb, eqb, List, [], ◌∷◌, ◌++◌, length, get_or, take, drop, set, append_assoc, Result, Ok, Err, refl, sym, ap, ◌∙◌, arith, inl, inr, ◌⊎◌}
use Rattle.std.proofs.lemmas.Bool.{cases_lt, ltb-true, ltb-false, lt-ltb, le-ltb, eqb-true, eqb-false, ne_eqb}
use Rattle.std.specs.Prelude.{◌↔◌}
use Rattle.std.specs.List.{AllByRecursion}
use Rattle.std.proofs.lemmas.List.Elements.{All-from_recursion, recursion_from_All}
use Rattle.std.proofs.lemmas.List.{get_or-drop, get_or-take, get_or_past, length-take, take_more_set}
use Rattle.byte_fields.specs.declared.number.NumberFault.{NumberFault}
use Rattle.byte_fields.specs.declared.number.NumberFault.TheVariants.{Short, Long}
use Rattle.byte_fields.specs.Spelling.{groups}
use Rattle.byte_fields.specs.Numbers.{with_low, number_at, EndsInNumber, IsLongNumber}

abbrev pub IsBytes : List ℕ → Type 0
IsBytes bytes = (i : ℕ) → get_or bytes i 0 < 256

IsBytes-rest : (b : ℕ) (bytes : List ℕ) → IsBytes (b ∷ bytes) → IsBytes bytes
IsBytes-rest b bytes h i = h (suc i)

-- one more than the largest number of so many groups one after another, where the last one has one bit
abbrev pub room : ℕ → ℕ
room zero = 2
room (suc more) = 128 * room more

pub room_more : (k d : ℕ) → room k ≤ room (d + k)
room_more k zero = let e : zero + k ≡ k = omega arith in rw e (omega arith)
room_more k (suc d) =
    let e : suc d + k ≡ suc (d + k) = omega arith in
    let h : room (suc d + k) ≡ 128 * room (d + k) = rw e refl in
    omega (arith, room_more k d)

room_pos : (k : ℕ) → 2 ≤ room k
room_pos zero = omega arith
room_pos (suc k) = omega (arith, room_pos k)

-- a number of the groups after a first one, and what it comes to with that one, stay below 2 ^ 64
pub room_of_10 : (more high : ℕ) → more ≤ 9 → 0 < more → high < room (more - 1) → 128 + 128 * high ≤ 2 ^ 64
room_of_10 more high le pos lt =
    let e : 9 - more + suc (more - 1) ≡ 9 = omega arith in
    let h : 128 * room (more - 1) ≤ 2 ^ 64 = rw e at (room_more (suc (more - 1)) (9 - more)) in
    omega arith

IsBytes-drop : (n : ℕ) (bytes : List ℕ) → IsBytes bytes → IsBytes (drop n bytes)
IsBytes-drop n bytes h i = rw get_or-drop (h (n + i))

IsBytes-take : (n : ℕ) (bytes : List ℕ) → IsBytes bytes → IsBytes (take n bytes)
IsBytes-take n bytes h i =
    elim (cases_lt i n) [
      | inl lt ↦ rw (get_or-take n bytes i 0 lt) (h i)
      | inr le ↦ rw (get_or_past (take n bytes) i 0 (omega (arith, length-take n bytes))) (omega arith)
    ]

-- which way a test went
chosen : {A : Type 0} (b : Bool) (x y z : A) → cond b x y ≡ z → ((b ≡ true) × (x ≡ z)) ⊎ ((b ≡ false) × (y ≡ z))
chosen true x y z e = inl (refl, e)
chosen false x y z e = inr (refl, e)

abbrev found : ℕ → List ℕ → Result (ℕ × List ℕ) NumberFault
found n rest = Ok (n, rest)

same_found : (m n : ℕ) (s t : List ℕ) → found m s ≡ found n t → (m ≡ n) × (s ≡ t)
same_found m n s t e =
    let p : (let a : ℕ × List ℕ = (m, s) in let b : ℕ × List ℕ = (n, t) in a ≡ b) = cc in
    (ap (λ (x : ℕ × List ℕ). x.0) p, ap (λ (x : ℕ × List ℕ). x.1) p)

-- what a number with this lowest group was made of
record Parts (group : ℕ) (read : Result (ℕ × List ℕ) NumberFault) (n : ℕ) (rest : List ℕ) : Type 0 where
  high : ℕ
  was : read ≡ found high rest
  above : 0 < high
  sum : n ≡ group - 128 + 128 * high

with_low_parts : (group : ℕ) (read : Result (ℕ × List ℕ) NumberFault) (n : ℕ) (rest : List ℕ) → with_low group read ≡ found n rest → Parts group read n rest
with_low_parts group (Err fault) n rest e = absurd cc
with_low_parts group (Ok x) n rest e =
    elim (chosen (eqb x.0 0) (Err Long) (found (group - 128 + 128 * x.0) x.1) (found n rest) e) [
      | inl h ↦ absurd (let bad = h.1 in cc)
      | inr h ↦
          let same = same_found (group - 128 + 128 * x.0) n x.1 rest h.1 in
          let ne = eqb-false x.0 0 h.0 in
          record { high = x.0; was = ap (λ (r : List ℕ). found x.0 r) same.1; above = omega (arith, ne); sum = sym same.0 }
    ]

-- ---- what is read is encoded so

pub record Spelled (more : ℕ) (bytes : List ℕ) (n : ℕ) (rest : List ℕ) : Type 0 where
  pub parts : bytes ≡ groups more n ++ rest
  pub fits : n < room more

groups_small : (more n : ℕ) → n < 128 → groups more n ≡ n ∷ []
unfolding groups
groups_small zero n lt = refl
groups_small (suc more) n lt = rw (lt-ltb n 128 lt) refl

groups_large : (more n : ℕ) → 128 ≤ n → groups (suc more) n ≡ (n % 128 + 128) ∷ groups more (n / 128)
unfolding groups
groups_large more n le = rw (le-ltb n 128 le) refl

pub number_takes : (more : ℕ) (bytes : List ℕ) (n : ℕ) (rest : List ℕ) → IsBytes bytes → number_at more bytes ≡ found n rest → Spelled more bytes n rest
unfolding number_at groups
number_takes more [] n rest fits e = absurd cc
number_takes zero (group ∷ bytes) n rest fits e =
    elim (chosen (ltb 1 group) (Err Long) (found group bytes) (found n rest) e) [
      | inl h ↦ absurd (let bad = h.1 in cc)
      | inr h ↦
          let same = same_found group n bytes rest h.1 in
          record { parts = rw (same.0, same.1) refl; fits = omega (arith, ltb-false 1 group h.0, same.0) }
    ]
number_takes (suc more) (group ∷ bytes) n rest fits e =
    elim (chosen (ltb group 128) (found group bytes) (with_low group (number_at more bytes)) (found n rest) e) [
      | inl h ↦
          let same = same_found group n bytes rest h.1 in
          let small : n < 128 = omega (arith, ltb-true group 128 h.0, same.0) in
          record { parts = rw (groups_small (suc more) n small, same.0, same.1) refl; fits = omega (arith, room_pos more) }
      | inr h ↦
          let p = with_low_parts group (number_at more bytes) n rest h.1 in
          let tail = number_takes more bytes p.high rest (IsBytes-rest group bytes fits) p.was in
          let wide : 128 ≤ group = ltb-false group 128 h.0 in
          let byte : group < 256 = fits 0 in
          let large : 128 ≤ n = omega (arith, p.sum, p.above) in
          let low : n % 128 + 128 ≡ group = omega (arith, p.sum) in
          let high : n / 128 ≡ p.high = omega (arith, p.sum) in
          record { parts = rw (groups_large more n large, low, high) (ap (λ (r : List ℕ). group ∷ r) tail.parts); fits = omega (arith, tail.fits, p.sum) }
    ]

-- ---- what is encoded so is read

pub number_again : (more n : ℕ) (rest : List ℕ) → n < room more → number_at more (groups more n ++ rest) ≡ found n rest
unfolding number_at groups
number_again zero n rest lt = rw (le-ltb 1 n (omega arith)) refl
number_again (suc more) n rest lt =
    elim (cases_lt n 128) [
      | inl small ↦ rw (groups_small (suc more) n small, lt-ltb n 128 small) refl
      | inr large ↦
          let below : n / 128 < room more = omega arith in
          let wide : 128 ≤ n % 128 + 128 = omega arith in
          let some : n / 128 ≡ 0 → ⊥ = λ z. omega arith in
          let sum : n % 128 + 128 - 128 + 128 * (n / 128) ≡ n = omega arith in
          rw (groups_large more n large, le-ltb (n % 128 + 128) 128 wide, number_again more (n / 128) rest below, ne_eqb (n / 128) 0 some, sum) refl
    ]

-- what was read after the first byte
pub high_below : (more high n : ℕ) (bytes rest : List ℕ) → more ≤ 9 → 0 < more → IsBytes bytes → number_at (more - 1) (take n (drop 1 bytes)) ≡ found high rest → 128 + 128 * high ≤ 2 ^ 64
high_below more high n bytes rest le pos fits e =
    let fit = IsBytes-take n (drop 1 bytes) (IsBytes-drop 1 bytes fits) in
    room_of_10 more high le pos (number_takes (more - 1) (take n (drop 1 bytes)) high rest fit e).fits

-- ---- when a number ends too soon, and when it is too long

abbrev follows : ℕ → Type 0
follows b = 128 ≤ b

with_low-short : (group : ℕ) (read : Result (ℕ × List ℕ) NumberFault) → with_low group read ≡ Err Short → read ≡ Err Short
with_low-short group (Err fault) e = e
with_low-short group (Ok x) e =
    elim (chosen (eqb x.0 0) (Err Long) (found (group - 128 + 128 * x.0) x.1) (Err Short) e) [
      | inl h ↦ absurd (let bad = h.1 in cc)
      | inr h ↦ absurd (let bad = h.1 in cc)
    ]

ends_from : (more : ℕ) (bytes : List ℕ) → number_at more bytes ≡ Err Short → (length bytes ≤ more) × AllByRecursion follows bytes
unfolding number_at
ends_from more [] e = (omega arith, tt)
ends_from zero (group ∷ bytes) e =
    elim (chosen (ltb 1 group) (Err Long) (found group bytes) (Err Short) e) [
      | inl h ↦ absurd (let bad = h.1 in cc)
      | inr h ↦ absurd (let bad = h.1 in cc)
    ]
ends_from (suc more) (group ∷ bytes) e =
    elim (chosen (ltb group 128) (found group bytes) (with_low group (number_at more bytes)) (Err Short) e) [
      | inl h ↦ absurd (let bad = h.1 in cc)
      | inr h ↦
          let tail = ends_from more bytes (with_low-short group (number_at more bytes) h.1) in
          let wide : 128 ≤ group = ltb-false group 128 h.0 in
          (omega (arith, tail.0), (wide, tail.1))
    ]

ends_to : (more : ℕ) (bytes : List ℕ) → length bytes ≤ more → AllByRecursion follows bytes → number_at more bytes ≡ Err Short
unfolding number_at
ends_to more [] few all = refl
ends_to zero (group ∷ bytes) few all = absurd (omega arith)
ends_to (suc more) (group ∷ bytes) few all = rw (le-ltb group 128 all.0, ends_to more bytes (omega arith) all.1) refl

pub number_at-short : (more : ℕ) (bytes : List ℕ) → (number_at more bytes ≡ Err Short) ↔ EndsInNumber more bytes
number_at-short more bytes = (
  λ e. let h = ends_from more bytes e in record { few = h.0; follow = All-from_recursion follows bytes h.1 },
  λ h. ends_to more bytes h.few (recursion_from_All follows bytes h.follow),
)

-- what a number that is too long was made of
with_low-long : (group : ℕ) (read : Result (ℕ × List ℕ) NumberFault) → with_low group read ≡ Err Long → (read ≡ Err Long) ⊎ ((rest : List ℕ) × (read ≡ found 0 rest))
with_low-long group (Err fault) e = inl e
with_low-long group (Ok x) e =
    elim (chosen (eqb x.0 0) (Err Long) (found (group - 128 + 128 * x.0) x.1) (Err Long) e) [
      | inl h ↦ inr (x.1, ap (λ (n : ℕ). found n x.1) (eqb-true x.0 0 h.0))
      | inr h ↦ absurd (let bad = h.1 in cc)
    ]

record LongParts (more : ℕ) (bytes : List ℕ) : Type 0 where
  front : List ℕ
  last : ℕ
  rest : List ℕ
  parts : bytes ≡ front ++ last ∷ rest
  follow : AllByRecursion follows front
  long : ((0 < length front) × (length front ≤ more) × (last ≡ 0)) ⊎ ((length front ≡ more) × (1 < last))

one_more : (more group : ℕ) (bytes : List ℕ) → 128 ≤ group → LongParts more bytes → LongParts (suc more) (group ∷ bytes)
one_more more group bytes wide p = record {
  front = group ∷ p.front;
  last = p.last;
  rest = p.rest;
  parts = ap (λ (r : List ℕ). group ∷ r) p.parts;
  follow = (wide, p.follow);
  long = elim p.long [ inl h ↦ inl (omega arith, omega (arith, h.1), h.2) | inr h ↦ inr (ap suc h.0, h.1) ];
}

long_from : (more : ℕ) (bytes : List ℕ) → IsBytes bytes → number_at more bytes ≡ Err Long → LongParts more bytes
unfolding number_at
long_from more [] fits e = absurd cc
long_from zero (group ∷ bytes) fits e =
    elim (chosen (ltb 1 group) (Err Long) (found group bytes) (Err Long) e) [
      | inl h ↦ record { front = []; last = group; rest = bytes; parts = refl; follow = tt; long = inr (refl, ltb-true 1 group h.0) }
      | inr h ↦ absurd (let bad = h.1 in cc)
    ]
long_from (suc more) (group ∷ bytes) fits e =
    elim (chosen (ltb group 128) (found group bytes) (with_low group (number_at more bytes)) (Err Long) e) [
      | inl h ↦ absurd (let bad = h.1 in cc)
      | inr h ↦
          let wide : 128 ≤ group = ltb-false group 128 h.0 in
          elim (with_low-long group (number_at more bytes) h.1) [
            | inl deeper ↦ one_more more group bytes wide (long_from more bytes (IsBytes-rest group bytes fits) deeper)
            | inr zero_last ↦
                let tail = number_takes more bytes 0 zero_last.0 (IsBytes-rest group bytes fits) zero_last.1 in
                let cells : bytes ≡ 0 ∷ zero_last.0 = tail.parts ∙ ap (λ (g : List ℕ). g ++ zero_last.0) (groups_small more 0 (omega arith)) in
                record { front = group ∷ []; last = 0; rest = zero_last.0; parts = ap (λ (r : List ℕ). group ∷ r) cells; follow = (wide, tt); long = inl (omega arith, omega arith, refl) }
          ]
    ]

number_at-zero : (more : ℕ) (rest : List ℕ) → number_at more (0 ∷ rest) ≡ found 0 rest
unfolding number_at
number_at-zero zero rest = refl
number_at-zero (suc more) rest = refl

long_to : (more : ℕ) (front : List ℕ) (last : ℕ) (rest : List ℕ) → AllByRecursion follows front → ((0 < length front) × (length front ≤ more) × (last ≡ 0)) ⊎ ((length front ≡ more) × (1 < last)) → number_at more (front ++ last ∷ rest) ≡ Err Long
unfolding number_at
long_to zero [] last rest all long = elim long [ inl h ↦ absurd (omega (arith, h.0)) | inr h ↦ rw (lt-ltb 1 last h.1) refl ]
long_to (suc more) [] last rest all long = absurd (elim long [ inl h ↦ omega (arith, h.0) | inr h ↦ omega (arith, h.0) ])
long_to zero (f ∷ front) last rest all long = absurd (elim long [ inl h ↦ omega (arith, h.1) | inr h ↦ omega (arith, h.0) ])
long_to (suc more) (f ∷ []) last rest all long =
    elim long [
      | inl h ↦ rw (le-ltb f 128 all.0, ap (λ (b : ℕ). number_at more (b ∷ rest)) h.2 ∙ number_at-zero more rest) refl
      | inr h ↦ rw (le-ltb f 128 all.0, long_to more [] last rest tt (inr (omega (arith, h.0), h.1))) refl
    ]
long_to (suc more) (f ∷ g ∷ front) last rest all long =
    let tail : ((0 < length (g ∷ front)) × (length (g ∷ front) ≤ more) × (last ≡ 0)) ⊎ ((length (g ∷ front) ≡ more) × (1 < last)) =
    elim long [ inl h ↦ inl (omega arith, omega (arith, h.1), h.2) | inr h ↦ inr (omega (arith, h.0), h.1) ] in
    rw (le-ltb f 128 all.0, long_to more (g ∷ front) last rest all.1 tail) refl

pub number_at-long : (more : ℕ) (bytes : List ℕ) → IsBytes bytes → (number_at more bytes ≡ Err Long) ↔ IsLongNumber more bytes
number_at-long more bytes fits = (
  λ e. let p = long_from more bytes fits e in record { front = p.front; last = p.last; rest = p.rest; parts = p.parts; follow = All-from_recursion follows p.front p.follow; long = p.long },
  λ p. ap (number_at more) p.parts ∙ long_to more p.front p.last p.rest (recursion_from_All follows p.front p.follow) p.long,
)

-- ---- writing group by group

pub groups_stepped : (cells : List ℕ) (i n : ℕ) (all : List ℕ) → i < 9 → length cells ≡ 10 → 128 ≤ n → take i cells ++ groups (9 - i) n ≡ all → take (i + 1) (set cells i (n % 128 + 128)) ++ groups (9 - (i + 1)) (n / 128) ≡ all
groups_stepped cells i n all lt len large so_far =
    let e : 9 - i ≡ suc (9 - (i + 1)) = omega arith in
    let g : groups (9 - i) n ≡ (n % 128 + 128) ∷ groups (9 - (i + 1)) (n / 128) = ap (λ (k : ℕ). groups k n) e ∙ groups_large (9 - (i + 1)) n large in
    let t = take_more_set cells i (n % 128 + 128) (omega arith) in
    rw (t, append_assoc) (ap (λ (r : List ℕ). take i cells ++ r) (sym g) ∙ so_far)

pub groups_ended : (cells : List ℕ) (i n : ℕ) (all : List ℕ) → i ≤ 9 → length cells ≡ 10 → groups (9 - i) n ≡ n ∷ [] → take i cells ++ groups (9 - i) n ≡ all → take (i + 1) (set cells i n) ≡ all
groups_ended cells i n all le len one so_far = take_more_set cells i n (omega arith) ∙ ap (λ (r : List ℕ). take i cells ++ r) (sym one) ∙ so_far

pub groups_below : (i n : ℕ) → n < 128 → groups (9 - i) n ≡ n ∷ []
groups_below i n lt = groups_small (9 - i) n lt

pub groups_tenth : (i n : ℕ) → 9 ≤ i → groups (9 - i) n ≡ n ∷ []
unfolding groups
groups_tenth i n le = let e : 9 - i ≡ zero = omega arith in ap (λ (k : ℕ). groups k n) e

pub room_stepped : (i n : ℕ) → i < 9 → n < room (9 - i) → n / 128 < room (9 - (i + 1))
room_stepped i n lt h =
    let e : 9 - i ≡ suc (9 - (i + 1)) = omega arith in
    let wide : n < 128 * room (9 - (i + 1)) = rw e at h in
    omega arith

pub room_tenth : (i n : ℕ) → 9 ≤ i → n < room (9 - i) → n < 2
room_tenth i n le h = let e : 9 - i ≡ zero = omega arith in rw e at h
