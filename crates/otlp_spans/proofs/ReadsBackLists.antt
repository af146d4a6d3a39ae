-- What is read of the values of a list's items, where each value reads back.
use Rattle.std.proofs.Common.{◌≡◌, ℕ, suc, ◌+◌, List, [], ◌∷◌, ◌++◌, length, map, flat_map, Option, Some, None, refl, sym, ap, ap₂, ◌∙◌}
use Rattle.std.specs.List.{AllByRecursion, filter_map}
use Rattle.std.proofs.lemmas.List.{length-append}
use Rattle.serde_json.specs.Data.{Data}
use Rattle.span_runs.proofs.RunLaws.{all_of, run_items}
use Rattle.otlp_spans.specs.Attributes.{skipped_by}
use Rattle.otlp_spans.specs.Forms.{Form, ListOf, first_in_items, first_wrong}
use Rattle.otlp_spans.specs.Json.{total}
use Rattle.otlp_spans.specs.Writing.{list_json}
use Rattle.otlp_spans.proofs.JsonLemmas.{items_in-items_of}

pub each : {A : Type 0} {P Q : A → Type 0} → ((x : A) → P x → Q x) → (xs : List A) → AllByRecursion P xs → AllByRecursion Q xs
each h [] all = tt
each h (x ∷ xs) all = (h x all.0, each h xs all.1)

pub each3 : {A : Type 0} {P Q R S : A → Type 0} → ((x : A) → P x → Q x → R x → S x) → (xs : List A)
    → AllByRecursion P xs → AllByRecursion Q xs → AllByRecursion R xs → AllByRecursion S xs
each3 h [] p q r = tt
each3 h (x ∷ xs) p q r = (h x p.0 q.0 r.0, each3 h xs p.1 q.1 r.1)

pub mapped : {A B : Type 0} (f : A → B) (xs : List A) → length (map f xs) ≡ length xs
mapped f [] = refl
mapped f (x ∷ xs) = ap suc (mapped f xs)

-- ---- items that are kept

pub kept_back : {A : Type 0} (of : Data → Option A) (f : A → Data) (xs : List A) → AllByRecursion (λ x. of (f x) ≡ Some x) xs → filter_map of (map f xs) ≡ xs
kept_back of f [] back = refl
kept_back {A} of f (x ∷ xs) back = rw (back.0) (ap (λ (l : List A). x ∷ l) (kept_back of f xs back.1))

pub total_none : {A : Type 0} (f : Data → ℕ) (g : A → Data) (xs : List A) → AllByRecursion (λ x. f (g x) ≡ 0) xs → total f (map g xs) ≡ 0
total_none f g [] h = refl
total_none f g (x ∷ xs) h = ap₂ (λ (a b : ℕ). a + b) h.0 (total_none f g xs h.1)

-- of an item that is kept only what is inside it is skipped
pub skipped_inside : {A : Type 0} (of : Data → Option A) (inside : Data → ℕ) (d : Data) (x : A) → of d ≡ Some x → skipped_by of inside d ≡ inside d
skipped_inside of inside d x is = rw is refl

-- ---- runs

pub flat_back : {A : Type 0} (f : Data → List A) (g : A × List A → Data) (rs : List (A × List A)) → AllByRecursion (λ r. f (g r) ≡ run_items r) rs
    → flat_map f (map g rs) ≡ all_of rs
flat_back f g [] h = refl
flat_back {A} f g (r ∷ rs) h = ap₂ (λ (a b : List A). a ++ b) h.0 (flat_back f g rs h.1)

pub total_len : {A : Type 0} (f : Data → ℕ) (g : A × List A → Data) → ((r : A × List A) → f (g r) ≡ length (run_items r)) → (rs : List (A × List A))
    → total f (map g rs) ≡ length (all_of rs)
total_len f g len [] = refl
total_len f g len (r ∷ rs) = ap₂ (λ (a b : ℕ). a + b) (len r) (total_len f g len rs) ∙ sym (length-append (run_items r) (all_of rs))

-- ---- forms

items_right : {A : Type 0} (form : Form) (f : A → Data) → ((x : A) → first_wrong form (f x) ≡ None) → (i : ℕ) (xs : List A) → first_in_items (first_wrong form) i (map f xs) ≡ None
items_right form f right i [] = refl
items_right form f right i (x ∷ xs) = rw (right x) (items_right form f right (suc i) xs)

pub list_right : {A : Type 0} (form : Form) (f : A → Data) → ((x : A) → first_wrong form (f x) ≡ None) → (xs : List A) → first_wrong (ListOf form) (list_json f xs) ≡ None
list_right form f right xs = rw (items_in-items_of (map f xs)) (items_right form f right 0 xs)
