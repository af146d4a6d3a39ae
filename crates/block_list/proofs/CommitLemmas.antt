-- What a crash leaves while a list is written.
use Rattle.std.proofs.Common.{◌≡◌, ◌≢◌, ◌⊎◌, inl, inr, ⊎_elim, ℕ, ◌-◌, ◌%◌, ◌<◌, Option, Some, None, List, [], ◌∷◌, ◌++◌, length, drop, Result, Ok, Err, OnOk, refl, sym, ◌∙◌, ap, subst, arith}
use Rattle.std.proofs.lemmas.Bool.{cases_eq}
use Rattle.disk_model.specs.Images.{Image, bytes_of, Besides}
use Rattle.disk_model.specs.Bytes.{overwritten, Torn}
use Rattle.disk_model.specs.Crash.{Reached, Within, OnlyBytes, ButFor, Run, RunInFile}
use Rattle.disk_model.proofs.BytesLemmas.{overwritten_behind}
use Rattle.disk_model.proofs.Moments.{widened}
use Rattle.disk_model.proofs.Runs.{run_then}
use Rattle.block_list.specs.Slots.{IsOpen, IsVacant, SlotHolds, SlotsHold, ImageHoldsList, IsNext}
use Rattle.block_list.specs.Slots.SlotsHold.{none, alone, other_alone, newer, other_newer}
use Rattle.block_list.specs.Body.{MeetsRules, text_of, successor}
use Rattle.block_list.specs.Commit.{slot_of, laid, CanLay, CanOpen, ImageHoldsEither, WritesSlot}
use Rattle.block_list.specs.ListText.{ListText}
use Rattle.block_list.proofs.SlotLemmas.{parity_differs, only_slot, seen_from, seen_back, vacated, closing, behind_closed, closed_is_vacant, opened, opening}
use Rattle.block_list.specs.declared.body.ListBody.{ListBody}

-- the gate closed
pub closed_bytes : (bytes : List ℕ) → overwritten bytes 0 (0 ∷ []) ≡ 0 ∷ drop 1 bytes
closed_bytes bytes = overwritten_behind [] bytes 0 (0 ∷ []) refl

-- the list after it
pub laid_bytes : (text bytes : List ℕ) → overwritten (0 ∷ drop 1 bytes) 1 text ≡ laid text bytes
laid_bytes text bytes = overwritten_behind (0 ∷ []) (drop 1 bytes) 1 text refl

-- and the gate opened
pub opened_bytes : (text rest : List ℕ) → overwritten ((0 ∷ text) ++ rest) 0 (1 ∷ []) ≡ 1 ∷ (text ++ rest)
opened_bytes text rest = overwritten_behind [] ((0 ∷ text) ++ rest) 0 (1 ∷ []) refl

-- an image with these bytes in the other slot
pub held_with : (slot : ℕ) (others : List ℕ) (list : Option ListBody) (image : Image) → slot < 2 → bytes_of image (1 - slot) ≡ others
    → SlotsHold slot (bytes_of image slot) others list → ImageHoldsList image list
held_with slot others list image below same holds =
    seen_back slot image list below (subst (λ (b : List ℕ). SlotsHold slot (bytes_of image slot) b list) (sym same) holds)

module _ {D : Type 0} (moment : D → ℕ) (left_since : D → ℕ → Image → Type 0) (may_leave : D → Image → Type 0) where
  -- a run in one slot, while each image has the same bytes in the other one
  pub writes : (slot : ℕ) (others : List ℕ) (P : List ℕ → Type 0) (property : Image → Type 0) (old new : D) → slot < 2 → OnlyBytes (1 - slot) others (may_leave old)
      → RunInFile moment left_since may_leave slot P P old new
      → ((image : Image) → bytes_of image (1 - slot) ≡ others → P (bytes_of image slot) → property image)
      → Run (WritesSlot slot property) moment left_since may_leave old new
  writes slot others P property old new below only run has =
      let differs : 1 - slot ≢ slot = omega arith in
      let step : (image : Image) → ButFor slot P (may_leave old) image → Reached (WritesSlot slot property) (may_leave old) image = λ image but.
      (but.origin, but.possible, record { list = has image (but.besides (1 - slot) differs ∙ only but.origin but.possible) but.here; besides = but.besides }) in
      record {
        since = widened moment left_since old new (ButFor slot P (may_leave old)) (Reached (WritesSlot slot property) (may_leave old)) run.since step;
        now = λ image left. step image (run.now image left);
      }

  -- one after another
  pub writes_then : (slot : ℕ) (P Q R : Image → Type 0) (old mid new : D) → Run (WritesSlot slot P) moment left_since may_leave old mid
      → Run (WritesSlot slot Q) moment left_since may_leave mid new → ((image : Image) → P image → R image) → ((image : Image) → Q image → R image)
      → Run (WritesSlot slot R) moment left_since may_leave old new
  writes_then slot P Q R old mid new first second early late =
      run_then moment left_since may_leave (WritesSlot slot P) (WritesSlot slot Q) (WritesSlot slot R) old mid new first second
      (λ origin image w. record { list = early image w.list; besides = w.besides })
      (λ a b c one two. record { list = late c two.list; besides = λ other differs. two.besides other differs ∙ one.besides other differs })

  -- the gate closes
  pub closes : (slot generation : ℕ) (held : Image) (list : Option ListBody) (old new : D) → generation % 2 ≡ slot → IsNext generation list
      → IsOpen (bytes_of held slot) ⊎ (length (bytes_of held slot) < 30) → ImageHoldsList held list → OnlyBytes (1 - slot) (bytes_of held (1 - slot)) (may_leave old)
      → RunInFile moment left_since may_leave slot (Torn 0 1 (bytes_of held slot)) (Torn 0 1 (bytes_of held slot)) old new
      → Run (WritesSlot slot (λ image. ImageHoldsList image list)) moment left_since may_leave old new
  closes slot generation held list old new parity next free holds only run =
      let below : slot < 2 = omega (arith, parity) in
      let others = bytes_of held (1 - slot) in
      writes slot others (Torn 0 1 (bytes_of held slot)) (λ image. ImageHoldsList image list) old new below only run
      (λ image same torn. held_with slot others list image below same
      (closing slot generation (bytes_of held slot) others (bytes_of image slot) list parity next free (seen_from slot held list below holds) torn))

  -- and so does that of a list that may be laid, by a write to its slot
  pub gate_closes : (list : ListText) (held : Image) (old : Option ListBody) (disk new : D) (slot : ℕ) → slot ≡ slot_of list → CanLay held (may_leave disk) list → ImageHoldsList held old → IsNext list.generation old
      → ((known : List ℕ) → OnlyBytes slot known (may_leave disk) → RunInFile moment left_since may_leave slot (Torn 0 1 known) (Torn 0 1 known) disk new)
      → Run (WritesSlot (slot_of list) (λ image. ImageHoldsList image old)) moment left_since may_leave disk new
  gate_closes list held old disk new slot is can holds next run =
      let only : (s : ℕ) → s < 2 → OnlyBytes s (bytes_of held s) (may_leave disk) = λ s below. only_slot s held (may_leave disk) below can.slot_0 can.slot_1 in
      let F : ℕ → Type 0 = λ s. RunInFile moment left_since may_leave s (Torn 0 1 (bytes_of held s)) (Torn 0 1 (bytes_of held s)) disk new in
      closes (slot_of list) list.generation held old disk new refl next can.free holds (only (1 - slot_of list) (omega arith))
      (subst F is (run (bytes_of held slot) (only slot (omega (arith, is)))))

  -- the list is laid after it
  pub lays : (slot generation : ℕ) (held : Image) (rest : List ℕ) (count : ℕ) (list : Option ListBody) (old new : D) → generation % 2 ≡ slot → IsNext generation list
      → ImageHoldsList held list → OnlyBytes (1 - slot) (bytes_of held (1 - slot)) (may_leave old)
      → RunInFile moment left_since may_leave slot (Torn 1 count (0 ∷ rest)) (Torn 1 count (0 ∷ rest)) old new
      → Run (WritesSlot slot (λ image. ImageHoldsList image list)) moment left_since may_leave old new
  lays slot generation held rest count list old new parity next holds only run =
      let below : slot < 2 = omega (arith, parity) in
      let others = bytes_of held (1 - slot) in
      writes slot others (Torn 1 count (0 ∷ rest)) (λ image. ImageHoldsList image list) old new below only run
      (λ image same torn. held_with slot others list image below same
      (vacated slot generation (bytes_of held slot) others (bytes_of image slot) list parity next (seen_from slot held list below holds) (behind_closed rest (bytes_of image slot) count torn)))

  -- the gate opens
  pub opens : (slot : ℕ) (held : Image) (text rest : List ℕ) (list : Option ListBody) (body : ListBody) (old new : D) → body.generation % 2 ≡ slot → MeetsRules body → text ≡ text_of body
      → IsNext body.generation list → ImageHoldsList held list → bytes_of held slot ≡ (0 ∷ text) ++ rest → OnlyBytes (1 - slot) (bytes_of held (1 - slot)) (may_leave old)
      → RunInFile moment left_since may_leave slot (Torn 0 1 ((0 ∷ text) ++ rest)) (Torn 0 1 ((0 ∷ text) ++ rest)) old new
      → Run (WritesSlot slot (ImageHoldsEither list body)) moment left_since may_leave old new
  opens slot held text rest list body old new parity rules is next holds laid_there only run =
      let below : slot < 2 = omega (arith, parity) in
      let others = bytes_of held (1 - slot) in
      let stands = subst (λ (b : List ℕ). SlotsHold slot b others list) laid_there (seen_from slot held list below holds) in
      writes slot others (Torn 0 1 ((0 ∷ text) ++ rest)) (ImageHoldsEither list body) old new below only run
      (λ image same torn. ⊎_elim (λ early. inl (held_with slot others list image below same early)) (λ late. inr (held_with slot others (Some body) image below same late))
      (opening slot others text rest (bytes_of image slot) list body parity rules is next stands torn))

-- what the other slot says of the list before this generation
abbrev pub Follow : ℕ → ℕ → List ℕ → Type 0
Follow slot generation others = (IsVacant others × (generation ≡ 0)) ⊎ ((old : ListBody) × SlotHolds (1 - slot) others old × (generation ≡ successor old.generation))

not_this : (slot generation : ℕ) (body : ListBody) (list : Option ListBody) → generation % 2 ≡ slot → IsNext generation list → body.generation % 2 ≡ slot → list ≡ Some body → ⊥
not_this slot generation body list parity next here is =
    let after : generation ≡ successor body.generation = subst (λ (l : Option ListBody). IsNext generation l) is next in
    parity_differs slot body.generation (sym here) (sym parity ∙ ap (λ (n : ℕ). n % 2) after)

-- what the other slot says of the old list
pub other_follows : (slot generation : ℕ) (bytes others : List ℕ) (list : Option ListBody) → generation % 2 ≡ slot → IsNext generation list → SlotsHold slot bytes others list
    → Follow slot generation others
other_follows slot generation bytes others list parity next (none here there is) = inl (there, subst (λ (l : Option ListBody). IsNext generation l) is next)
other_follows slot generation bytes others list parity next (alone body here there is) = absurd (not_this slot generation body list parity next here.parity is)
other_follows slot generation bytes others list parity next (other_alone body here there is) = inr (body, there, subst (λ (l : Option ListBody). IsNext generation l) is next)
other_follows slot generation bytes others list parity next (newer body older here there follows is) = absurd (not_this slot generation body list parity next here.parity is)
other_follows slot generation bytes others list parity next (other_newer body older here there follows is) = inr (body, there, subst (λ (l : Option ListBody). IsNext generation l) is next)

-- what each image has in the other slot stays
pub other_stays : (slot : ℕ) (property : Image → Type 0) (bytes : List ℕ) (before after : Image → Type 0) → slot < 2 → Within (Reached (WritesSlot slot property) before) after
    → OnlyBytes (1 - slot) bytes before → OnlyBytes (1 - slot) bytes after
other_stays slot property bytes before after below within only image left =
    let differs : 1 - slot ≢ slot = omega arith in
    let r = within image left in
    r.2.besides (1 - slot) differs ∙ only r.0 r.1

-- a list that may be laid was laid: its gate may be opened
pub may_open : (list : ListText) (held mid : Image) (before after : Image → Type 0) → CanLay held before list
    → ((old : Option ListBody) → ImageHoldsList held old → IsNext list.generation old → Within (Reached (WritesSlot (slot_of list) (λ image. ImageHoldsList image old)) before) after)
    → Besides (slot_of list) held mid → OnlyBytes (slot_of list) (laid list.text (bytes_of held (slot_of list))) after → CanOpen mid after list
may_open list held mid before after can now besides there =
    let slot = slot_of list in
    let below : slot < 2 = omega arith in
    let differs : 1 - slot ≢ slot = omega arith in
    let others : bytes_of mid (1 - slot) ≡ bytes_of held (1 - slot) = besides (1 - slot) differs in
    record {
      other = subst (λ (b : List ℕ). OnlyBytes (1 - slot) b after) (sym others)
          (other_stays slot (λ image. ImageHoldsList image can.follows.0) (bytes_of held (1 - slot)) before after below (now can.follows.0 can.follows.1 can.follows.2)
          (only_slot (1 - slot) held before (omega arith) can.slot_0 can.slot_1));
      follows = subst (λ (b : List ℕ). Follow slot list.generation b) (sym others) (other_follows slot list.generation (bytes_of held slot) (bytes_of held (1 - slot)) can.follows.0 refl can.follows.2 (seen_from slot held can.follows.0 below can.follows.1));
      in_place = (drop (length list.text) (drop 1 (bytes_of held slot)), there);
    }

-- each of the two slots has one image, where the one that was written has, and the other one had
pub slot_lasts : (s slot : ℕ) (held later : Image) (P : List ℕ → Type 0) (before after : Image → Type 0) → s < 2 → slot < 2 → Within (ButFor slot P before) after → Besides slot held later
    → OnlyBytes (1 - slot) (bytes_of held (1 - slot)) before → OnlyBytes slot (bytes_of later slot) after → OnlyBytes s (bytes_of later s) after
slot_lasts s slot held later P before after low below within besides other own = elim (cases_eq s slot) [
  | inl is ↦ subst (λ (n : ℕ). OnlyBytes n (bytes_of later n) after) (sym is) own
  | inr differs ↦ (let is : s ≡ 1 - slot = omega (arith, low, below, differs) in let apart : 1 - slot ≢ slot = omega (arith, below) in
      subst (λ (n : ℕ). OnlyBytes n (bytes_of later n) after) (sym is)
      (λ image left. let but = within image left in but.besides (1 - slot) apart ∙ other but.origin but.possible ∙ sym (besides (1 - slot) apart)))
]

-- a vacant slot beside the other one
pub beside_vacant : (slot generation : ℕ) (bytes others : List ℕ) → IsVacant bytes → Follow slot generation others
    → (old : Option ListBody) × SlotsHold slot bytes others old × IsNext generation old
beside_vacant slot generation bytes others gone (inl alone_there) = (None, none gone alone_there.0 refl, alone_there.1)
beside_vacant slot generation bytes others gone (inr there) = (Some there.0, other_alone there.0 gone there.1 refl, there.2)

-- an image in which the laid list's gate is open
pub image_opened : (slot generation : ℕ) (others text rest : List ℕ) (body : ListBody) (image : Image) → slot < 2 → body.generation % 2 ≡ slot → MeetsRules body → text ≡ text_of body → generation ≡ body.generation
    → Follow slot generation others → bytes_of image (1 - slot) ≡ others → bytes_of image slot ≡ 1 ∷ (text ++ rest) → ImageHoldsList image (Some body)
image_opened slot generation others text rest body image below parity rules is same follows there one =
    let before = beside_vacant slot generation ((0 ∷ text) ++ rest) others (closed_is_vacant ((0 ∷ text) ++ rest) (text ++ rest) refl) follows in
    held_with slot others (Some body) image below there
    (opened slot others text rest (bytes_of image slot) before.0 body parity rules is (subst (λ (n : ℕ). IsNext n before.0) same before.2) before.1 one)

-- two facts that hold where the result is `Ok`
pub both : {T E P Q R : Type 0} (result : Result T E) → OnOk result P → OnOk result Q → (P → Q → R) → OnOk result R
both (Ok x) p q f = f p q
both (Err e) p q f = tt
