-- Lists whose elements stand in a relation, place by place.
use Rattle.std.proofs.Common.{◌≡◌, ◌||◌, Bool, ℕ, zero, suc, ◌<◌, List, [], ◌∷◌, ◌++◌, ◌∙◌, refl, sym, subst, ap, arith, length, map, take, ◌+◌, slice_get, slice_index_or, Some}
use Rattle.std.proofs.lemmas.List.{take_more}
use Rattle.std.specs.List.{AllByRecursion, AllZip, Any, list_any}

pub zip_push : {A B : Type 0} (R : A → B → Type 0) (xs : List A) (ys : List B) (x : A) (y : B) → AllZip R xs ys → R x y → AllZip R (xs ++ x ∷ []) (ys ++ y ∷ [])
zip_push R [] [] x y h r = (r, tt)
zip_push R [] (b ∷ bs) x y h r = absurd h
zip_push R (a ∷ rest) [] x y h r = absurd h
zip_push R (a ∷ rest) (b ∷ bs) x y h r = (h.0, zip_push R rest bs x y h.1 r)

-- one pair more, at the end of what was gone over
pub zip_more : {A B : Type 0} (R : A → B → Type 0) (xs : List A) (ys zs : List B) (k : ℕ) (d : A) (y : B) → k < length xs → AllZip R (take k xs) ys → R (slice_index_or xs k d) y → zs ≡ ys ++ y ∷ [] → AllZip R (take (k + 1) xs) zs
zip_more R xs ys zs k d y l h r e =
    subst (AllZip R (take (k + 1) xs)) (sym e)
    (subst (λ front. AllZip R front (ys ++ y ∷ [])) (sym (take_more xs k d l)) (zip_push R (take k xs) ys (slice_index_or xs k d) y h r))

pub zip_length : {A B : Type 0} (R : A → B → Type 0) (xs : List A) (ys : List B) → AllZip R xs ys → length ys ≡ length xs
zip_length R [] [] h = refl
zip_length R [] (y ∷ ys) h = absurd h
zip_length R (x ∷ xs) [] h = absurd h
zip_length R (x ∷ xs) (y ∷ ys) h = ap suc (zip_length R xs ys h.1)

-- what is true of each on the left, on the right
pub zip_all : {A B : Type 0} (R : A → B → Type 0) (P : A → Type 0) (Q : B → Type 0) → ((x : A) (y : B) → R x y → P x → Q y) → (xs : List A) (ys : List B) → AllZip R xs ys → AllByRecursion P xs → AllByRecursion Q ys
zip_all R P Q f [] [] h all = tt
zip_all R P Q f [] (y ∷ ys) h all = absurd h
zip_all R P Q f (x ∷ xs) [] h all = absurd h
zip_all R P Q f (x ∷ xs) (y ∷ ys) h all = (f x y h.0 all.0, zip_all R P Q f xs ys h.1 all.1)

-- what is true of some one on the left, on the right
some_zip : {A B : Type 0} (R : A → B → Type 0) (P : A → Type 0) (Q : B → Type 0) → ((x : A) (y : B) → R x y → P x → Q y) → (xs : List A) (ys : List B) → AllZip R xs ys → (k : ℕ) (x : A) → k < length xs → slice_index_or xs k x ≡ x → P x → Any Q ys
some_zip R P Q f [] ys h k x l e p = absurd (omega (arith, l))
some_zip R P Q f (a ∷ rest) [] h k x l e p = absurd h
some_zip R P Q f (a ∷ rest) (b ∷ bs) h zero x l e p = (0, b, omega arith, refl, f a b h.0 (subst P (sym e) p))
some_zip R P Q f (a ∷ rest) (b ∷ bs) h (suc k) x l e p =
    let found = some_zip R P Q f rest bs h.1 k x (omega (arith, l)) e p in
    (suc found.0, found.1, omega (arith, found.2), found.3, found.4)

pub zip_any : {A B : Type 0} (R : A → B → Type 0) (P : A → Type 0) (Q : B → Type 0) → ((x : A) (y : B) → R x y → P x → Q y) → (xs : List A) (ys : List B) → AllZip R xs ys → Any P xs → Any Q ys
zip_any R P Q f xs ys h some = some_zip R P Q f xs ys h some.0 some.1 some.2 some.3 some.4

pub zip_map : {A B C : Type 0} (R : A → B → Type 0) (f : A → C) (g : B → C) → ((x : A) (y : B) → R x y → g y ≡ f x) → (xs : List A) (ys : List B) → AllZip R xs ys → map g ys ≡ map f xs
zip_map R f g e [] [] h = refl
zip_map R f g e [] (y ∷ ys) h = absurd h
zip_map R f g e (x ∷ xs) [] h = absurd h
zip_map R f g e (x ∷ xs) (y ∷ ys) h = ap (λ c. c ∷ map g ys) (e x y h.0) ∙ ap (λ cs. f x ∷ cs) (zip_map R f g e xs ys h.1)

-- the pair at a place
pub zip_at : {A B : Type 0} (R : A → B → Type 0) (d : A) (xs : List A) (ys : List B) (k : ℕ) (y : B) → AllZip R xs ys → slice_get ys k ≡ Some y → (k < length xs) × R (slice_index_or xs k d) y
zip_at R d [] [] k y h e = absurd cc
zip_at R d [] (b ∷ bs) k y h e = absurd h
zip_at R d (a ∷ rest) [] k y h e = absurd h
zip_at R d (a ∷ rest) (b ∷ bs) zero y h e =
    let same : b ≡ y = cc in
    (omega arith, subst (R a) same h.0)
zip_at R d (a ∷ rest) (b ∷ bs) (suc k) y h e =
    let more = zip_at R d rest bs k y h.1 e in
    (omega (arith, more.0), more.1)

pub any_map : {A B : Type 0} (p : B → Bool) (f : A → B) (xs : List A) → list_any p (map f xs) ≡ list_any (λ x. p (f x)) xs
any_map p f [] = refl
any_map p f (x ∷ xs) = ap (λ b. p (f x) || b) (any_map p f xs)
