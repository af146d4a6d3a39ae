-- What a crash leaves while a list is loaded.
use Rattle.std.proofs.Common.{◌≡◌, ◌≢◌, inl, inr, ℕ, ◌-◌, ◌<◌, ◌≤◌, true, not, eqb, ltb, Option, List, ◌∷◌, length, get_or, Result, Ok, Err, OnOk, refl, sym, ◌∙◌, ap, subst, arith, length-append}
use Rattle.std.proofs.lemmas.Bool.{cases_eq, cases_lt, or_cases, ltb-true, eqb-false, not-true}
use Rattle.disk_model.specs.Images.{Image, bytes_of, OnFile}
use Rattle.disk_model.specs.Bytes.{HalfCut}
use Rattle.disk_model.specs.Crash.{OnlyBytes, Run}
use Rattle.disk_model.proofs.Runs.{run_more}
use Rattle.block_list.specs.Body.{text_of}
use Rattle.block_list.specs.Slots.{IsVacant, SlotHolds, SlotsHold}
use Rattle.block_list.specs.Loading.{StaysOrClears, KeepsList}
use Rattle.block_list.specs.Reading.{is_vacant}
use Rattle.block_list.proofs.BodyLemmas.{length-text}
use Rattle.block_list.proofs.SlotLemmas.{zero_or_one, seen_from, seen_back, slot_may_change}
use Rattle.block_list.specs.declared.body.ListBody.{ListBody}

-- a slot that holds a list isn't vacant
pub holds_not_vacant : (slot : ℕ) (bytes : List ℕ) (body : ListBody) → SlotHolds slot bytes body → IsVacant bytes → ⊥
holds_not_vacant slot bytes body holds (inl short) =
    absurd (omega (arith, ap length holds.encoded, length-append (1 ∷ text_of body) holds.rest, length-text body))
holds_not_vacant slot bytes body holds (inr closed) = closed (ap (λ (l : List ℕ). get_or l 0 0) holds.encoded)

-- a vacant slot may be any other vacant one
pub still_vacant : (slot : ℕ) (bytes others new : List ℕ) (found : Option ListBody) → SlotsHold slot bytes others found → IsVacant bytes → IsVacant new → SlotsHold slot new others found
still_vacant slot bytes others new found stands vacant gone =
    slot_may_change slot bytes others new found (λ body here _. holds_not_vacant slot bytes body here vacant) (λ _. gone) (λ _ _. inr gone) stands

-- a vacant slot stays vacant while it is cut to its first byte
pub cut_stays_vacant : (bytes new : List ℕ) → IsVacant bytes → HalfCut 1 bytes new → IsVacant new
cut_stays_vacant bytes new (inl short) cut = inl (omega (arith, cut.no_longer))
cut_stays_vacant bytes new (inr closed) cut = elim (cases_lt 0 (length new)) [
  | inl some ↦ elim (cases_lt 0 (length bytes)) [
    | inl had ↦ inr (λ one. closed (sym (cut.same 0 (omega arith) had some) ∙ one))
    | inr empty ↦ inl (omega (arith, cut.no_longer))
  ]
  | inr nothing ↦ inl (omega arith)
]

-- two cuts to one byte are one
cut_on : (a b c : List ℕ) → HalfCut 1 a b → HalfCut 1 b c → HalfCut 1 a c
cut_on a b c first second = record {
  no_shorter = omega (arith, first.no_shorter, second.no_shorter);
  no_longer = omega (arith, first.no_longer, second.no_longer);
  same = λ offset below had some.
      let between : offset < length b = omega (arith, first.no_shorter) in
      second.same offset below between some ∙ first.same offset below had between;
}

clears_on : (a b c : List ℕ) → StaysOrClears a b → StaysOrClears b c → StaysOrClears a c
clears_on a b c (inl same) (inl again) = inl (again ∙ same)
clears_on a b c (inl same) (inr cut) = subst (λ (l : List ℕ). StaysOrClears l c) same (inr cut)
clears_on a b c (inr cut) (inl same) = subst (λ (l : List ℕ). StaysOrClears a l) (sym same) (inr cut)
clears_on a b c (inr cut) (inr more) = inr (cut.0, cut.1, cut_on a b c cut.2 more.2)

pub keeps_same : (image : Image) → KeepsList image image
keeps_same image = record { list = λ found holds. holds; slots = λ slot below. inl refl; files = λ file more. refl }

pub keeps_trans : (a b c : Image) → KeepsList a b → KeepsList b c → KeepsList a c
keeps_trans a b c first second = record {
  list = λ found holds. second.list found (first.list found holds);
  slots = λ slot below. clears_on (bytes_of a slot) (bytes_of b slot) (bytes_of c slot) (first.slots slot below) (second.slots slot below);
  files = λ file more. second.files file more ∙ first.files file more;
}

-- an image whose slot was being cut
cut_image : (slot : ℕ) (bytes : List ℕ) (origin image : Image) → slot < 2 → bytes_of origin slot ≡ bytes → IsVacant bytes → 30 ≤ length bytes → OnFile slot (HalfCut 1) origin image → KeepsList origin image
cut_image slot bytes origin image below is vacant long on =
    let was : IsVacant (bytes_of origin slot) = subst IsVacant (sym is) vacant in
    let had : 30 ≤ length (bytes_of origin slot) = subst (λ (l : List ℕ). 30 ≤ length l) (sym is) long in
    let gone : IsVacant (bytes_of image slot) = cut_stays_vacant (bytes_of origin slot) (bytes_of image slot) was on.changed in
    let differs : 1 - slot ≢ slot = omega arith in
    record {
      list = λ found holds.
          seen_back slot image found below
          (subst (λ (b : List ℕ). SlotsHold slot (bytes_of image slot) b found) (sym (on.besides (1 - slot) differs))
          (still_vacant slot (bytes_of origin slot) (bytes_of origin (1 - slot)) (bytes_of image slot) found (seen_from slot origin found below holds) was gone));
      slots = λ other within. elim (cases_eq other slot) [
        | inl here ↦ subst (λ (s : ℕ). StaysOrClears (bytes_of origin s) (bytes_of image s)) (sym here) (inr (was, had, on.changed))
        | inr there ↦ inl (on.besides other there)
      ];
      files = λ file more. on.besides file (omega arith);
    }

-- a vacant slot, long enough for a list, is cut
pub kept_cut : {D : Type 0} (moment : D → ℕ) (left_since : D → ℕ → Image → Type 0) (may_leave : D → Image → Type 0) (slot : ℕ) (bytes : List ℕ) (old new : D) → slot < 2 → OnlyBytes slot bytes (may_leave old) → IsVacant bytes
    → 30 ≤ length bytes → Run (OnFile slot (HalfCut 1)) moment left_since may_leave old new → Run KeepsList moment left_since may_leave old new
kept_cut moment left_since may_leave slot bytes old new below only vacant long run =
    run_more moment left_since may_leave (OnFile slot (HalfCut 1)) KeepsList old new run
    (λ origin image possible on. cut_image slot bytes origin image below (only origin possible) vacant long on)

-- After a run from images that all have one content of each slot, an image's slots come from that content.
pub slots_after : {D : Type 0} (moment : D → ℕ) (left_since : D → ℕ → Image → Type 0) (may_leave : D → Image → Type 0) (start image : Image) (old new : D) → OnlyBytes 0 (bytes_of start 0) (may_leave old)
    → OnlyBytes 1 (bytes_of start 1) (may_leave old) → Run KeepsList moment left_since may_leave old new → may_leave new image → (slot : ℕ) → slot < 2 → StaysOrClears (bytes_of start slot) (bytes_of image slot)
slots_after moment left_since may_leave start image old new only_0 only_1 run left slot below =
    let r = run.now image left in
    let same : bytes_of r.0 slot ≡ bytes_of start slot = elim (zero_or_one slot below) [
      | inl is ↦ subst (λ (s : ℕ). bytes_of r.0 s ≡ bytes_of start s) (sym is) (only_0 r.0 r.1)
      | inr is ↦ subst (λ (s : ℕ). bytes_of r.0 s ≡ bytes_of start s) (sym is) (only_1 r.0 r.1)
    ] in
    subst (λ (l : List ℕ). StaysOrClears l (bytes_of image slot)) same (r.2.slots slot below)

-- what the test for a vacant slot tells
pub vacant_from : (bytes : List ℕ) → is_vacant bytes ≡ true → IsVacant bytes
vacant_from bytes is = elim (or_cases (ltb (length bytes) 30) (not (eqb (get_or bytes 0 0) 1)) is) [
  | inl short ↦ inl (ltb-true (length bytes) 30 short)
  | inr closed ↦ inr (eqb-false (get_or bytes 0 0) 1 (not-true (eqb (get_or bytes 0 0) 1) closed))
]

-- a fact that holds anyhow
pub ok_any : {T E : Type 0} (result : Result T E) (P : Type 0) → P → OnOk result P
ok_any (Ok x) P p = p
ok_any (Err e) P p = tt
