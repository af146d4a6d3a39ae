-- How many entries an image has is one number.
use Rattle.std.proofs.Common.{◌≡◌, ℕ, ◌+◌, List, length, None, Some, sym, ◌∙◌, ap, subst}
use Rattle.span_types.specs.declared.spans.Row.{Row}
use Rattle.span_types.specs.declared.spans.Span.{Span}
use Rattle.disk_model.specs.Images.{Image}
use Rattle.block_list.specs.declared.body.ListBody.{ListBody}
use Rattle.block_list.proofs.SlotLemmas.{same_some}
use Rattle.store_model.specs.History.{History, count_of}
use Rattle.store_images.specs.Log.{LogHolds}
use Rattle.store_images.specs.Stored.{ImageStandsFor, ImageStores, first_number}
use Rattle.store_images.specs.Stored.ImageStores.{vacant, filled}
use Rattle.store_images.proofs.Keeping.{one_list}
use Rattle.store_core.specs.Opening.{HasEntries}
use Rattle.store_core.specs.Opening.HasEntries.{vacant as without_list, filled as with_list}
use Rattle.store_files.proofs.LogLaws.{one_log}

pub one_count : (image : Image) (n other : ℕ) → HasEntries image n → HasEntries image other → n ≡ other
one_count image n other (without_list bare is) (without_list also so) = is ∙ sym so
one_count image n other (without_list bare is) (with_list list batches there log so) = absurd (let bad : None ≡ Some list = one_list image None (Some list) bare there in cc)
one_count image n other (with_list list batches there log is) (without_list bare so) = absurd (let bad : None ≡ Some list = one_list image None (Some list) bare there in cc)
one_count image n other (with_list list batches there log is) (with_list body others here logged so) =
    let e : list ≡ body = same_some list body (one_list image (Some list) (Some body) there here) in
    let b : batches ≡ others = one_log image body.segments (first_number body) batches others (subst (λ (l : ListBody). LogHolds image l.segments (first_number l) batches) e log) logged in
    is ∙ ap (λ (l : ListBody). first_number l + length batches) e ∙ ap (λ (l : List (List Span)). first_number body + length l) b ∙ sym so

pub sound_count : (image : Image) (h : History) → ImageStandsFor image h → HasEntries image (count_of h)
sound_count image h s = by_stores s.rows (count_of h) s.stores
  where
    by_stores : (rows : List Row) (count : ℕ) → ImageStores image rows count → HasEntries image count
    by_stores rows count (vacant holds no_rows is) = without_list holds is
    by_stores rows count (filled body blocks batches store one rows_are is) = with_list body batches store.listed store.logged is
