-- ---- lemmas, which stand here because the laws of `impl`s cite them: the tests of equality decide it
use Rattle.std.proofs.Common.{◌≡◌, ℕ, Bool, true, false, ◌&&◌, ℤ, List, refl, sym, subst, ap, ◌∙◌}
use Rattle.std.specs.Bool.{Decides, one_answer}
use Rattle.std.specs.Cmp.{IsEquivalence}
use Rattle.std.specs.Str.{bytes_eq}
use Rattle.std.proofs.lemmas.Bool.{and_parts, and_from}
use Rattle.std.proofs.lemmas.Bool.Decides.{Decides-int_eq}
use Rattle.std.proofs.lemmas.Slice.Eq.{bytes_eq-Decides, slice_eq-Decides}
use Rattle.span_types.specs.declared.attrs.Attr.{Attr}
use Rattle.span_types.specs.declared.attrs.AttrValue.{AttrValue}
use Rattle.span_types.specs.declared.attrs.AttrValue.TheVariants.{Text, Whole, Truth}
use Rattle.span_types.specs.declared.attrs.Resource.{Resource}
use Rattle.span_types.specs.declared.attrs.Scope.{Scope}
use Rattle.span_types.specs.Equal.{same_truth, same_value, same_attr, same_attrs, same_resource, same_scope}

-- a test that decides equality is an equivalence
pub decided_equiv : {K : Type 0} (E : K → K → Bool) → ((x y : K) → Decides (E x y) (x ≡ y)) → IsEquivalence E
decided_equiv {K} E d = record {
  refl = λ x. (d x x).1 refl;
  symm = λ x y. one_answer {P = x ≡ y} (E x y) (E y x) (d x y) (λ e. sym ((d y x).0 e), λ e. (d y x).1 (sym e));
  congr = λ x y z e. ap (λ (w : K). E w z) ((d x y).0 e);
}

truth_decides : (a b : Bool) → Decides (same_truth a b) (a ≡ b)
truth_decides true true = (λ _. refl, λ _. refl)
truth_decides true false = (λ e. cc, λ e. cc)
truth_decides false true = (λ e. cc, λ e. cc)
truth_decides false false = (λ _. refl, λ _. refl)

pub value_decides : (a b : AttrValue) → Decides (same_value a b) (a ≡ b)
value_decides (Text s) (Text t) = (λ e. ap (λ (x : List ℕ). Text x) ((bytes_eq-Decides s t).0 e), λ e. (bytes_eq-Decides s t).1 cc)
value_decides (Whole m) (Whole n) = (λ e. ap (λ (x : ℤ). Whole x) ((Decides-int_eq m n).0 e), λ e. (Decides-int_eq m n).1 cc)
value_decides (Truth a) (Truth b) = (λ e. ap (λ (x : Bool). Truth x) ((truth_decides a b).0 e), λ e. (truth_decides a b).1 cc)
value_decides (Text s) (Whole n) = (λ e. cc, λ e. cc)
value_decides (Text s) (Truth b) = (λ e. cc, λ e. cc)
value_decides (Whole m) (Text t) = (λ e. cc, λ e. cc)
value_decides (Whole m) (Truth b) = (λ e. cc, λ e. cc)
value_decides (Truth a) (Text t) = (λ e. cc, λ e. cc)
value_decides (Truth a) (Whole n) = (λ e. cc, λ e. cc)

pub attr_decides : (a b : Attr) → Decides (same_attr a b) (a ≡ b)
attr_decides a b = (
  λ e.
      let p = and_parts (bytes_eq a.key b.key) (same_value a.value b.value) e in
      let key = (bytes_eq-Decides a.key b.key).0 p.0 in
      let value = (value_decides a.value b.value).0 p.1 in
      ap (λ (k : List ℕ). record { key = k; value = a.value }) key ∙ ap (λ (v : AttrValue). record { key = b.key; value = v }) value,
  λ e. and_from (bytes_eq a.key b.key) (same_value a.value b.value) ((bytes_eq-Decides a.key b.key).1 (ap (λ (x : Attr). x.key) e)) ((value_decides a.value b.value).1 (ap (λ (x : Attr). x.value) e)),
)

pub attrs_decide : (a b : List Attr) → Decides (same_attrs a b) (a ≡ b)
attrs_decide a b = slice_eq-Decides attr_decides a b (same_attrs a b) refl

pub resource_decides : (a b : Resource) → Decides (same_resource a b) (a ≡ b)
unfolding same_resource
resource_decides a b = (
  λ e. ap (λ (l : List Attr). record { attrs = l }) ((attrs_decide a.attrs b.attrs).0 e),
  λ e. (attrs_decide a.attrs b.attrs).1 (ap (λ (x : Resource). x.attrs) e),
)

pub scope_decides : (a b : Scope) → Decides (same_scope a b) (a ≡ b)
unfolding same_scope
scope_decides a b =
    let n = bytes_eq-Decides a.name b.name in
    let v = bytes_eq-Decides a.version b.version in
    let l = attrs_decide a.attrs b.attrs in (
      λ e.
          let p = and_parts (bytes_eq a.name b.name && bytes_eq a.version b.version) (same_attrs a.attrs b.attrs) e in
          let q = and_parts (bytes_eq a.name b.name) (bytes_eq a.version b.version) p.0 in
          ap (λ (x : List ℕ). record { name = x; version = a.version; attrs = a.attrs }) (n.0 q.0)
          ∙ ap (λ (x : List ℕ). record { name = b.name; version = x; attrs = a.attrs }) (v.0 q.1)
          ∙ ap (λ (x : List Attr). record { name = b.name; version = b.version; attrs = x }) (l.0 p.1),
      λ e. and_from (bytes_eq a.name b.name && bytes_eq a.version b.version) (same_attrs a.attrs b.attrs)
          (and_from (bytes_eq a.name b.name) (bytes_eq a.version b.version) (n.1 (ap (λ (x : Scope). x.name) e)) (v.1 (ap (λ (x : Scope). x.version) e)))
          (l.1 (ap (λ (x : Scope). x.attrs) e)),
    )
