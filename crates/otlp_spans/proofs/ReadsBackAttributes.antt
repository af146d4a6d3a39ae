-- What is written for attributes reads back, and no part of it has a wrong form.
use Rattle.std.proofs.Common.{◌≡◌, ℕ, List, [], ◌∷◌, ◌++◌, map, Some, None, refl, ap, ◌∙◌}
use Rattle.std.proofs.lemmas.List.Elements.{recursion_from_All}
use Rattle.std.specs.List.{filter_map}
use Rattle.serde_json.specs.Data.{Data}
use Rattle.span_types.specs.declared.attrs.Attr.{Attr}
use Rattle.span_types.specs.declared.attrs.AttrValue.{AttrValue}
use Rattle.span_types.specs.declared.attrs.AttrValue.TheVariants.{Text, Whole, Truth}
use Rattle.span_types.specs.Promises.{AreDistinctAfter}
use Rattle.otlp_spans.specs.declared.paths.Member.TheVariants as m
use Rattle.otlp_spans.specs.Attributes.{attr_of, attrs_in, firsts_behind, list_in, nothing, skipped_attrs, skipped_by, value_of}
use Rattle.otlp_spans.specs.Fits.{AreFit, FitsAttr, FitsValue}
use Rattle.otlp_spans.specs.Forms.{attribute_form, attributes_form, first_wrong}
use Rattle.otlp_spans.specs.Json.{total}
use Rattle.otlp_spans.specs.Writing.{attr_json, list_json, value_json}
use Rattle.otlp_spans.proofs.ReadsBackFields.{int_back}
use Rattle.otlp_spans.proofs.ReadsBackLists.{each, kept_back, list_right, skipped_inside, total_none}

keyed_back : (key : List ℕ) (value : AttrValue) → FitsValue value → attr_of (attr_json (record { key = key; value = value })) ≡ Some (record { key = key; value = value })
unfolding attr_of value_of attr_json value_json
keyed_back key (Text text) fits = refl
keyed_back key (Whole n) fits = rw (int_back n fits) refl
keyed_back key (Truth truth) fits = refl

attr_back : (a : Attr) → FitsAttr a → attr_of (attr_json a) ≡ Some a
attr_back a fits = keyed_back a.key a.value fits

-- of attributes with distinct keys each is the first of its key
firsts_back : (before attrs : List Attr) → AreDistinctAfter before attrs → firsts_behind before attrs ≡ attrs
firsts_back before [] distinct = refl
firsts_back before (a ∷ attrs) distinct = rw distinct.0 (ap (λ (l : List Attr). a ∷ l) (firsts_back (before ++ a ∷ []) attrs distinct.1))

pub attrs_back : (d : Data) (attrs : List Attr) → list_in m.Attributes d ≡ map attr_json attrs → AreFit attrs → attrs_in d ≡ attrs
unfolding attrs_in
attrs_back d attrs is fit =
    ap (λ (l : List Data). firsts_behind [] (filter_map attr_of l)) is
    ∙ ap (λ (l : List Attr). firsts_behind [] l) (kept_back attr_of attr_json attrs (each attr_back attrs (recursion_from_All FitsAttr attrs fit.values)))
    ∙ firsts_back [] attrs fit.distinct

pub no_attr_skipped : (d : Data) (attrs : List Attr) → list_in m.Attributes d ≡ map attr_json attrs → AreFit attrs → skipped_attrs d ≡ 0
unfolding skipped_attrs
no_attr_skipped d attrs is fit =
    ap (λ (l : List Data). total (skipped_by attr_of nothing) l) is
    ∙ total_none (skipped_by attr_of nothing) attr_json attrs
    (each (λ a fits. skipped_inside attr_of nothing (attr_json a) a (attr_back a fits)) attrs (recursion_from_All FitsAttr attrs fit.values))

attr_right : (a : Attr) → first_wrong attribute_form (attr_json a) ≡ None
unfolding attr_json
attr_right a = refl

pub attrs_right : (attrs : List Attr) → first_wrong attributes_form (list_json attr_json attrs) ≡ None
attrs_right attrs = list_right attribute_form attr_json attr_right attrs
