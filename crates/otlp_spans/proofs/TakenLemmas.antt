-- What an object has when a member was taken out of it.
use Rattle.std.proofs.Common.{◌≡◌, ℕ, Bool, true, false, cond, List, [], ◌∷◌, Option, Some, None, nat_cmp, is_eq, bytes_eq, true≢false, string_bytes, refl, sym, ap, ◌∙◌}
use Rattle.std.proofs.lemmas.Map.Text.{is_eq-slice_cmp}
use Rattle.std.proofs.lemmas.Slice.Eq.{bytes_eq-Decides}
use Rattle.std.specs.BTreeMap.{is_at}
use Rattle.std.specs.Cmp.Lexicographic.{slice_cmp}
use Rattle.std.specs.Map.{remove_entry}
use Rattle.std.specs.Ordering.{match_ordering}
use Rattle.serde_json.specs.Data.{Data, null, boolean, number, string, array, object, Members}
use Rattle.serde_json.specs.Find.{as_object, get_member}
use Rattle.serde_json.specs.View.{members_view, view}
use Rattle.serde_json.proofs.Views.{Entry, member_later}
use Rattle.otlp_spans.proofs.AloneLemmas.{object_of}
use Rattle.otlp_spans.specs.Forms.{found}
use Rattle.otlp_spans.specs.declared.paths.Member.{Member}

-- at one entry, where `rest` is what is left of the later ones
at_entry : (other name : List ℕ) (e : Entry) (es rest : List Entry) (b : Bool) → is_eq (slice_cmp nat_cmp name (string_bytes e.0)) ≡ b → bytes_eq other name ≡ false
    → get_member other (members_view rest) ≡ get_member other (members_view es) → get_member other (members_view (cond b es (e ∷ rest))) ≡ get_member other (members_view (e ∷ es))
at_entry other name e es rest true is differ later =
    let named : name ≡ string_bytes e.0 = (bytes_eq-Decides name (string_bytes e.0)).0 (sym (is_eq-slice_cmp name (string_bytes e.0)) ∙ is) in
    sym (member_later other e es (λ same. true≢false (sym ((bytes_eq-Decides other name).1 (same ∙ sym named)) ∙ differ)))
at_entry other name e es rest false is differ later = ap (λ (r : Option Data). match_ordering (slice_cmp nat_cmp other (string_bytes e.0)) r (Some (view e.1)) r) later

-- members of other names stay
pub others_stay : (other name : List ℕ) (es : List Entry) → bytes_eq other name ≡ false
    → get_member other (members_view (remove_entry (is_at (λ k. slice_cmp nat_cmp name (string_bytes k))) es)) ≡ get_member other (members_view es)
others_stay other name [] differ = refl
others_stay other name (e ∷ es) differ =
    at_entry other name e es (remove_entry (is_at (λ k. slice_cmp nat_cmp name (string_bytes k))) es) (is_eq (slice_cmp nat_cmp name (string_bytes e.0))) refl differ (others_stay other name es differ)

-- what is found in an object's members, and in what is no object
pub found_within : (k : Member) (d : Data) (ms : Members) → Some ms ≡ as_object d → found k (object ms) ≡ found k d
found_within k d ms is = ap (found k) (sym (object_of d ms is))

pub found_outside : (k : Member) (d : Data) → None ≡ as_object d → None ≡ found k d
found_outside k null is = refl
found_outside k (boolean b) is = refl
found_outside k (number n) is = refl
found_outside k (string s) is = refl
found_outside k (array ds) is = refl
found_outside k (object ns) is = cc is
