-- What a segment is read as is what it stands for.
use Rattle.std.proofs.Common.{◌≡◌, ◌≢◌, inl, inr, ℕ, zero, suc, ◌+◌, ◌-◌, ◌<◌, ◌≤◌, All, Bool, true, false, ◌&&◌, cond, eqb, leb, List, [], ◌∷◌, ◌++◌, length, take, drop, Ok, Err, append_assoc, refl, sym, ap, subst, ◌∙◌, arith}
use Rattle.std.specs.List.{flat_map, AllByRecursion}
use Rattle.std.proofs.lemmas.Bool.{and_parts, cases_lt, eqb-true, eqb-false, leb-true}
use Rattle.std.proofs.lemmas.List.{append-nil, length-append, length-drop, length-take, drop-take, take-append-drop, get_or-take, get_or_past}
use Rattle.std.proofs.lemmas.List.Elements.{All-from_recursion}
use Rattle.span_types.specs.declared.limits.TheConstants.{MOST_SPANS}
use Rattle.span_types.specs.declared.spans.Span.{Span}
use Rattle.byte_fields.specs.Spelling.{fixed64_bytes}
use Rattle.byte_fields.specs.Reading.{Stand, left, AreBytes, IsWithin, ahead, byte_at, fixed64_at}
use Rattle.byte_fields.proofs.FieldLaws.{passes}
use Rattle.head_log.specs.declared.numbered.NumberedBatch.{NumberedBatch}
use Rattle.byte_fields.specs.Breaks.{in_part}
use Rattle.byte_fields.specs.Laws.{Took}
use Rattle.head_log.specs.Bodies.{body_bytes}
use Rattle.head_log.specs.Records.{record_bytes, written, IsShort}
use Rattle.head_log.specs.Sound.{IsSoundBatch}
use Rattle.head_log.specs.Stands.{IsBatchBody, AreBatchBodies, SegmentHolds}
use Rattle.head_log.specs.Scanning.{body_at, body_in, record_at, numbered, more_at, records_at, segment_at}
use Rattle.head_log.specs.Entries.{entries}
use Rattle.byte_fields.proofs.Meant.{bound, same_pair, kept_then, chosen, took, took_none, took_then, meant_byte, meant_fixed64}
use Rattle.head_log.proofs.MeantRuns.{meant_body}

-- ---- a body in its part of the file

part_within : (bytes : List ℕ) (start len : ℕ) → AreBytes bytes → start + len ≤ length bytes → IsWithin (take (start + len) bytes) start
part_within bytes start len fit room = record {
  bytes_fit = λ i. elim (cases_lt i (start + len)) [
    | inl lt ↦ rw (get_or-take (start + len) bytes i 0 lt) (fit i)
    | inr le ↦ rw (get_or_past (take (start + len) bytes) i 0 (omega (arith, length-take (start + len) bytes))) (omega arith)
  ];
  no_further = omega (arith, length-take (start + len) bytes);
}

no_more : (b : List ℕ) → length b ≡ 0 → b ≡ []
no_more [] none = refl
no_more (x ∷ b) none = absurd (omega arith)

record BodyMeans (number len : ℕ) (s : Stand) (spans : List Span) (t : Stand) : Type 0 where
  body : List ℕ
  of : IsBatchBody number spans body
  size : length body ≡ len
  bytes : Took body s t

body_in_means : (number len : ℕ) (s : Stand) → IsWithin s.whole s.at → (spans : List Span) (t : Stand) → body_in number s.whole s.at len ≡ Ok (spans, t) → BodyMeans number len s spans t
unfolding body_in
body_in_means number len s is spans t e =
    let within : Bool = leb len (length s.whole - s.at) in
    let stop : ℕ = cond within (s.at + len) (length s.whole) in
    let a = bound (body_at within number (record { whole = take stop s.whole; at = s.at })) (λ x. cond (within && eqb x.1.at stop) (Ok (x.0, record { whole = s.whole; at = stop })) (Err x.1.at)) (spans, t) e in
    let u : Stand = a.value.1 in
    let kept = kept_then (within && eqb u.at stop) u.at (Ok (a.value.0, record { whole = s.whole; at = stop })) (spans, t) a.last in
    let tests = and_parts within (eqb u.at stop) kept.0 in
    let inside : len ≤ length s.whole - s.at = leb-true len (length s.whole - s.at) tests.0 in
    let stop_is : stop ≡ s.at + len = ap (λ (b : Bool). cond b (s.at + len) (length s.whole)) tests.0 in
    let end_is : u.at ≡ stop = eqb-true u.at stop tests.1 in
    let fits : s.at + len ≤ length s.whole = omega (arith, is.no_further) in
    let part : Stand = record { whole = take (s.at + len) s.whole; at = s.at } in
    let read : body_at true number part ≡ Ok a.value = subst (λ (b : Bool). body_at b number (record { whole = take (cond b (s.at + len) (length s.whole)) s.whole; at = s.at }) ≡ Ok a.value) tests.0 a.first in
    let got = meant_body true number part (part_within s.whole s.at len is.bytes_fit fits) a.value.0 u read in
    let body : List ℕ = body_bytes number a.value.0 in
    let place : u.at ≡ s.at + length body = ap (λ (x : Stand). x.at) got.bytes.passed.place in
    let size : length body ≡ len = omega arith in
    let room : length (left s) ≡ length s.whole - s.at = length-drop s.at s.whole in
    let parts : body ++ left u ≡ take len (left s) = sym got.bytes.passed.spelled ∙ drop-take s.at len s.whole in
    let sizes : length body + length (left u) ≡ length (take len (left s)) = sym (length-append body (left u)) ∙ ap length parts in
    let none : left u ≡ [] = no_more (left u) (omega (arith, length-take len (left s))) in
    let front : body ≡ take len (left s) = sym (append-nil body) ∙ ap (λ (l : List ℕ). body ++ l) (sym none) ∙ parts in
    let spelled : left s ≡ body ++ drop len (left s) = sym (take-append-drop len (left s)) ∙ ap (λ (l : List ℕ). l ++ drop len (left s)) (sym front) in
    let whole : Took body s (ahead (length body) s) = took body s (ahead (length body) s) is (passes s body (drop len (left s)) spelled) in
    let same = same_pair a.value.0 spans (record { whole = s.whole; at = stop }) t kept.1 in
    let to : s.at + length body ≡ stop = omega arith in
    let there : ahead (length body) s ≡ t = ap (λ (k : ℕ). record { whole = s.whole; at = k }) to ∙ same.1 in
    record {
      body = body;
      of = record { spelled = ap (λ (l : List Span). body_bytes number l) same.0; sound = subst (λ (l : List Span). IsSoundBatch number l) same.0 got.fits };
      size = size;
      bytes = subst (λ (v : Stand). Took body s v) there whole;
    }

record RecordMeans (number : ℕ) (s : Stand) (spans : List Span) (t : Stand) : Type 0 where
  body : List ℕ
  of : IsBatchBody number spans body
  short : IsShort body
  bytes : Took (fixed64_bytes (length body) ++ body) s t

record_means : (number : ℕ) (s : Stand) → IsWithin s.whole s.at → (spans : List Span) (t : Stand) → record_at number s ≡ Ok (spans, t) → RecordMeans number s spans t
unfolding record_at
record_means number s is spans t e =
    let a = bound (in_part false fixed64_at s) (λ len. body_in number len.1.whole len.1.at len.0) (spans, t) e in
    let len = meant_fixed64 false s is a.value.0 a.value.1 a.first in
    let found = body_in_means number a.value.0 a.value.1 len.bytes.within spans t a.last in
    let own : Took (fixed64_bytes (length found.body)) s a.value.1 = subst (λ (n : ℕ). Took (fixed64_bytes n) s a.value.1) (sym found.size) len.bytes in
    record { body = found.body; of = found.of; short = omega (arith, len.fits, found.size); bytes = took_then own found.bytes }

-- ---- records

record RecordsMean (number : ℕ) (before : List NumberedBatch) (s : Stand) (all : List NumberedBatch) (t : Stand) : Type 0 where
  batches : List (List Span)
  bodies : List (List ℕ)
  is : all ≡ before ++ entries number batches
  numbered_so : AreBatchBodies number batches bodies
  short : AllByRecursion IsShort bodies
  bytes : Took (flat_map record_bytes bodies) s t
  shut : ℕ
  rest : List ℕ
  closed : shut ≢ 1
  gate : left t ≡ shut ∷ rest

records_mean : (most number : ℕ) (before : List NumberedBatch) (s : Stand) → IsWithin s.whole s.at → (all : List NumberedBatch) (t : Stand) → records_at most number before s ≡ Ok (all, t) → RecordsMean number before s all t
unfolding records_at more_at record_bytes
records_mean zero number before s is all t e = absurd (cc)
records_mean (suc most) number before s is all t e =
    let a = bound (in_part false byte_at s) (λ gate. cond (eqb gate.0 1) (more_at (records_at most) number before gate.1) (Ok (before, s))) (all, t) e in
    let gate = a.value.0 in
    let u = a.value.1 in
    let byte = meant_byte false s is gate u a.first in
    elim (chosen (eqb gate 1) (more_at (records_at most) number before u) (Ok (before, s)) (Ok (all, t)) a.last) [
      | inl h ↦
          let b = bound (record_at number u) (λ x. records_at most (number + 1) (before ++ numbered number x.0 ∷ []) x.1) (all, t) h.1 in
          let one = record_means number u byte.bytes.within b.value.0 b.value.1 b.first in
          let rest = records_mean most (number + 1) (before ++ numbered number b.value.0 ∷ []) b.value.1 one.bytes.within all t b.last in
          let opened : Took (1 ∷ []) s u = subst (λ (n : ℕ). Took (n ∷ []) s u) (eqb-true gate 1 h.0) byte.bytes in
          let whole : Took (record_bytes one.body) s b.value.1 = took_then opened one.bytes in
          record {
            batches = b.value.0 ∷ rest.batches;
            bodies = one.body ∷ rest.bodies;
            is = rest.is ∙ append_assoc before (numbered number b.value.0 ∷ []) (entries (number + 1) rest.batches);
            numbered_so = (one.of, rest.numbered_so);
            short = (one.short, rest.short);
            bytes = took_then whole rest.bytes;
            shut = rest.shut;
            rest = rest.rest;
            closed = rest.closed;
            gate = rest.gate;
          }
      | inr h ↦
          let same = same_pair before all s t h.1 in
          subst (λ (v : Stand). RecordsMean number before s all v) same.1
          (record {
            batches = [];
            bodies = [];
            is = sym same.0 ∙ sym (append-nil before);
            numbered_so = tt;
            short = tt;
            bytes = took_none s is;
            shut = gate;
            rest = left u;
            closed = eqb-false gate 1 h.0;
            gate = byte.bytes.passed.spelled;
          })
    ]

pub segment_means : (first : ℕ) (bytes : List ℕ) (found : List NumberedBatch) (end : Stand) → AreBytes bytes → segment_at first bytes ≡ Ok (found, end)
    → (batches : List (List Span)) × (found ≡ entries first batches) × SegmentHolds first batches end.at bytes
unfolding segment_at
segment_means first bytes found end fit e =
    let s : Stand = record { whole = bytes; at = 0 } in
    let is : IsWithin bytes 0 = record { bytes_fit = fit; no_further = omega arith } in
    let a = bound (in_part false byte_at s) (λ version. cond (eqb version.0 1) (records_at (length bytes) first [] version.1) (Err 0)) (found, end) e in
    let version = meant_byte false s is a.value.0 a.value.1 a.first in
    let kept = kept_then (eqb a.value.0 1) 0 (records_at (length bytes) first [] a.value.1) (found, end) a.last in
    let one : Took (1 ∷ []) s a.value.1 = subst (λ (n : ℕ). Took (n ∷ []) s a.value.1) (eqb-true a.value.0 1 kept.0) version.bytes in
    let records = records_mean (length bytes) first [] a.value.1 version.bytes.within found end kept.1 in
    let whole : Took (written records.bodies) s end = took_then one records.bytes in
    let place : end.at ≡ 0 + length (written records.bodies) = ap (λ (x : Stand). x.at) whole.passed.place in (
      records.batches,
      records.is,
      record {
        bodies = records.bodies;
        numbered = records.numbered_so;
        has = record {
          shut = records.shut;
          rest = records.rest;
          closed = records.closed;
          parts = whole.passed.spelled ∙ ap (λ (l : List ℕ). written records.bodies ++ l) records.gate;
          place = omega arith;
          short = records.short;
        };
      },
    )

-- a record that is read has few spans
pub record_few : (number : ℕ) (s : Stand) → IsWithin s.whole s.at → (spans : List Span) (t : Stand) → record_at number s ≡ Ok (spans, t) → length spans ≤ MOST_SPANS
record_few number s is spans t e = (record_means number s is spans t e).of.sound.few

-- the numbers of batches that are read are below the limit
numbers_below : (first : ℕ) (batches : List (List Span)) (bodies : List (List ℕ)) → AreBatchBodies first batches bodies → AllByRecursion (λ (e : NumberedBatch). e.number < 4294967295) (entries first batches)
numbers_below first [] bodies are = tt
numbers_below first (spans ∷ batches) [] are = absurd are
numbers_below first (spans ∷ batches) (body ∷ bodies) are = (are.0.sound.below, numbers_below (first + 1) batches bodies are.1)

pub found_below : (first : ℕ) (bytes : List ℕ) (found : List NumberedBatch) (end : Stand) → AreBytes bytes → segment_at first bytes ≡ Ok (found, end) → All (λ (e : NumberedBatch). e.number < 4294967295) found
found_below first bytes found end fit e =
    let m = segment_means first bytes found end fit e in
    subst (λ (l : List NumberedBatch). All (λ (e : NumberedBatch). e.number < 4294967295) l) (sym m.1)
    (All-from_recursion (λ (e : NumberedBatch). e.number < 4294967295) (entries first m.0) (numbers_below first m.0 m.2.bodies m.2.numbered))
