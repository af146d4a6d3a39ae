-- What an image stands for whose list is that of a flush's commit.
use Rattle.std.proofs.Common.{◌≡◌, inl, inr, ℕ, ◌+◌, ◌-◌, ◌≤◌, zero, suc, List, [], ◌∷◌, ◌++◌, length, drop, refl, sym, ◌∙◌, ap, subst, arith, length-append, length-drop}
use Rattle.std.specs.List.{Contains}
use Rattle.std.proofs.Math.Seq.{drop-append-add}
use Rattle.std.proofs.lemmas.List.{append-nil, map-append}
use Rattle.std.proofs.lemmas.List.Elements.{Contains-append_cases}
use Rattle.span_types.specs.declared.spans.Span.{Span}
use Rattle.span_types.specs.declared.spans.Row.{Row}
use Rattle.disk_model.specs.Images.{Image}
use Rattle.block_list.specs.Body.{MeetsRules}
use Rattle.block_list.specs.declared.body.BlockRef.{BlockRef}
use Rattle.block_list.specs.declared.body.SegmentRef.{SegmentRef}
use Rattle.block_list.specs.declared.body.ListBody.{ListBody}
use Rattle.store_images.proofs.Kept.{stands_with}
use Rattle.store_model.specs.History.{History, count_of, record_rows}
use Rattle.store_model.specs.Laws.{AgreesOn}
use Rattle.store_model.specs.State.{Block}
use Rattle.store_images.specs.Committed.{CommitsFlush}
use Rattle.store_images.specs.Log.{LogHolds}
use Rattle.store_images.specs.Log.LogHolds.{ended, goes_on}
use Rattle.store_images.specs.Stored.{ImageStandsFor, BlockStands, StoreHolds, first_number, stored_rows, ref_of}
use Rattle.store_images.proofs.Lists.{not_in_nil, in_cons}
use Rattle.store_images.proofs.Logs.{log_with}
use Rattle.store_images.proofs.Keeping.{rules_in}
use Rattle.store_images.proofs.Between.{flushed, in_later}

-- ---- a log without its first segments

record Rest (image : Image) (kept : List SegmentRef) (first : ℕ) (batches : List (List Span)) : Type 0 where
  dropped : ℕ
  few : dropped ≤ length batches
  logged : LogHolds image kept (first + dropped) (drop dropped batches)

rest_of : (image : Image) (gone kept : List SegmentRef) (first : ℕ) (batches : List (List Span)) → LogHolds image (gone ++ kept) first batches → Rest image kept first batches
rest_of image [] kept first batches holds = record {
  dropped = 0;
  few = omega arith;
  logged = subst (λ (n : ℕ). LogHolds image kept n batches) (let e : first ≡ first + 0 = omega arith in e) holds;
}
rest_of image (x ∷ gone) kept _ _ (goes_on {number} {segments} {rest} file mine keeps more) =
    let r = rest_of image gone kept (number + length mine) rest more in
    let size = length-append mine rest in
    let few = r.few in
    record {
      dropped = length mine + r.dropped;
      few = omega (arith, size, few);
      logged = subst (λ (n : ℕ). LogHolds image kept n (drop (length mine + r.dropped) (mine ++ rest))) (let e : number + length mine + r.dropped ≡ number + (length mine + r.dropped) = omega arith in e)
          (subst (λ (b : List (List Span)). LogHolds image kept (number + length mine + r.dropped) b) (sym (drop-append-add mine rest r.dropped)) r.logged);
    }

-- the number of the first record
first_of : (image : Image) (segments : List SegmentRef) (segment : SegmentRef) (n : ℕ) (batches : List (List Span)) (body : ListBody) → body.segments ≡ segments ++ segment ∷ [] → LogHolds image segments n batches
    → segment.first ≡ n + length batches → first_number body ≡ n
first_of image _ segment _ _ body is (ended {number}) last =
    let e : segment.first ≡ number = omega (arith, last) in
    ap (λ (l : List SegmentRef). first_number (record body { segments = l })) is ∙ e
first_of image _ segment _ _ body is (goes_on {number} {segments} {rest} file mine keeps more) last = ap (λ (l : List SegmentRef). first_number (record body { segments = l })) is

drop_none : (b : ℕ) → drop {A = List Span} b [] ≡ []
drop_none zero = refl
drop_none (suc n) = refl

drop_more : (a b : ℕ) (xs : List (List Span)) → drop b (drop a xs) ≡ drop (a + b) xs
drop_more zero b xs = ap (λ (n : ℕ). drop n xs) (let e : b ≡ 0 + b = omega arith in e)
drop_more (suc a) b [] = drop_none b ∙ sym (drop_none (suc a + b))
drop_more (suc a) b (x ∷ xs) = drop_more a b xs ∙ ap (λ (n : ℕ). drop n (x ∷ xs)) (let e : suc (a + b) ≡ suc a + b = omega arith in e)

-- ---- the image

-- The log of the new list, but for its last segment, stands for these batches, and the image stores what the list names.
pub record LeftLogged (image : Image) (body new : ListBody) (kept : List SegmentRef) (segment : SegmentRef) (blocks : List Block) (batches : List (List Span)) (h : History) : Type 0 where
  pub before : List (List Span)
  pub earlier : LogHolds image kept (first_number new) before
  pub follows : segment.first ≡ first_number new + length before
  pub store : StoreHolds image new blocks before
  pub agrees : AgreesOn (stored_rows blocks (first_number new) before) h
  pub counts : count_of h ≡ first_number new + length before
  -- of the rows of the whole log those from the first number on
  pub later : (x : Row) → Contains (record_rows (first_number body) batches) x → first_number new ≤ x.place.number → Contains (record_rows (first_number new) before) x

module _ (image : Image) (body new : ListBody) (blocks : List Block) (block : Block) (batches : List (List Span)) (waiting : List Row) (h : History)
    (c : CommitsFlush image body new blocks block batches waiting h) where
  built_with : (b : Block) → Contains (blocks ++ block ∷ []) b → BlockStands image b
  built_with b inside = elim (Contains-append_cases blocks (block ∷ []) b inside) [
    | inl old ↦ c.built b old
    | inr other ↦ elim (in_cons b block [] other) [ inl is ↦ subst (λ (x : Block). BlockStands image x) is c.own | inr none ↦ absurd (not_in_nil b none) ]
  ]

  with_rest : Rest image c.kept (first_number body) batches → LeftLogged image body new c.kept c.segment (blocks ++ block ∷ []) batches h
  with_rest r =
      let first : ℕ = first_number body in
      let left : List (List Span) = drop r.dropped batches in
      let size : length left ≡ length batches - r.dropped = length-drop r.dropped batches in
      let few = r.few in
      let next = c.next in
      let last : c.segment.first ≡ first + r.dropped + length left = omega (arith, next, size, few) in
      let is : first_number new ≡ first + r.dropped = first_of image c.kept c.segment (first + r.dropped) left new c.segments r.logged last in
      let whole : LogHolds image (c.kept ++ c.segment ∷ []) (first + r.dropped) (left ++ []) = log_with image c.kept (first + r.dropped) left c.segment.file c.segment.first [] r.logged last c.empty in
      let log : LogHolds image new.segments (first_number new) left =
      subst (λ (l : List SegmentRef). LogHolds image l (first_number new) left) (sym c.segments)
      (subst (λ (n : ℕ). LogHolds image (c.kept ++ c.segment ∷ []) n left) (sym is)
      (subst (λ (b : List (List Span)). LogHolds image (c.kept ++ c.segment ∷ []) (first + r.dropped) b) (append-nil left) whole)) in
      let rules : MeetsRules new = rules_in image new c.listed in
      let low : first_number new ≤ new.floor = rules.from_floor in
      let agrees : AgreesOn (stored_rows (blocks ++ block ∷ []) (first_number new) left) h =
      subst (λ (n : ℕ). AgreesOn (stored_rows (blocks ++ block ∷ []) n left) h) (sym is)
      (flushed blocks block first r.dropped batches waiting h c.agrees c.rest c.within (λ x w. let a = c.above x w in omega (arith, a, low, is))) in
      let more : ℕ = new.floor - first_number new in
      let there : first + (r.dropped + more) ≡ new.floor = omega (arith, low, is) in
      let floored : AgreesOn (stored_rows (blocks ++ block ∷ []) new.floor (drop more left)) h =
      subst (λ (n : ℕ). AgreesOn (stored_rows (blocks ++ block ∷ []) n (drop more left)) h) there
      (subst (λ (b : List (List Span)). AgreesOn (stored_rows (blocks ++ block ∷ []) (first + (r.dropped + more)) b) h) (sym (drop_more r.dropped more batches))
      (flushed blocks block first (r.dropped + more) batches waiting h c.agrees c.rest c.within (λ x w. let a = c.above x w in omega (arith, a, there)))) in
      let counts = c.counts in
      record {
        before = left;
        earlier = subst (λ (n : ℕ). LogHolds image c.kept n left) (sym is) r.logged;
        follows = omega (arith, last, is);
        store = record {
          listed = c.listed;
          its_blocks = c.blocks_are ∙ ap (λ (l : List BlockRef). l ++ ref_of block ∷ []) c.old_blocks ∙ sym (map-append ref_of blocks (block ∷ []));
          built = built_with;
          logged = log;
          floored = λ k. agrees.firsts k ∙ sym (floored.firsts k);
        };
        agrees = agrees;
        counts = omega (arith, counts, is, size, few);
        later = λ x inside high. subst (λ (n : ℕ). Contains (record_rows n left) x) (sym is) (in_later first r.dropped batches x inside (omega (arith, high, is)));
      }

  pub left_logged : LeftLogged image body new c.kept c.segment (blocks ++ block ∷ []) batches h
  left_logged = with_rest (rest_of image c.gone c.kept (first_number body) batches (subst (λ (l : List SegmentRef). LogHolds image l (first_number body) batches) c.split c.logged))

  pub committed : ImageStandsFor image h
  committed =
      let l = left_logged in
      stands_with image new (blocks ++ block ∷ []) l.before h l.store l.agrees l.counts
