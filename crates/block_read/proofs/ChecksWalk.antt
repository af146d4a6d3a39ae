-- What a check keeps, stripe by stripe, and what it tells by that.
use Rattle.std.proofs.Common.{◌≡◌, ℕ, max, Bool, true, false, ◌&&◌, ◌||◌, cond, eqb, List, [], ◌++◌, length, drop, Option, None, Result, Ok, Err, refl, sym, ap, subst, ◌∙◌}
use Rattle.std.specs.List.{All, list_any}
use Rattle.std.proofs.lemmas.Bool.{and_parts, eqb-true}
use Rattle.std.proofs.lemmas.List.{length-map, map-append}
use Rattle.std.proofs.lemmas.List.Elements.{All-append}
use Rattle.std.proofs.lemmas.List.Folds.{list_any-append}
use Rattle.span_types.specs.declared.ids.TraceId.{TraceId}
use Rattle.span_types.specs.declared.spans.Row.{Row}
use Rattle.byte_fields.specs.declared.breaks.Break.{Break}
use Rattle.byte_fields.specs.declared.breaks.Break.TheVariants as breaks
use Rattle.byte_fields.specs.Breaks.{Fails}
use Rattle.byte_fields.specs.Reading.{◌>>=◌}
use Rattle.block_info.specs.declared.info.StripeInfo.{StripeInfo}
use Rattle.block_info.specs.InfoParts.{InfoParts}
use Rattle.block_format.specs.declared.header.Header.{Header}
use Rattle.block_format.specs.Blocks.{form_of_rows, ids_of, info_of, is_rich}
use Rattle.block_read.specs.declared.block.Block.{Block}
use Rattle.block_read.specs.declared.checking.Outline.{Outline}
use Rattle.block_read.specs.Answers.{made_of}
use Rattle.block_read.specs.BlockReadings.{block_at, header_of, indexed, info_read, listed_at, stripes_of, unless_not}
use Rattle.block_read.specs.Checks.{outline}
use Rattle.block_read.proofs.StripesWalk.{with_later}

-- ---- what is kept

form_more : (xs ys : List Row) → form_of_rows (xs ++ ys) ≡ max (form_of_rows xs) (form_of_rows ys)
form_more xs ys = ap (λ (t : Bool). cond t 2 1) (list_any-append is_rich xs ys) ∙ by (list_any is_rich xs) (list_any is_rich ys)
  where
    by : (a b : Bool) → cond (a || b) 2 1 ≡ max (cond a 2 1) (cond b 2 1)
    by true true = refl
    by true false = refl
    by false true = refl
    by false false = refl

same_outline : (a b : Outline) → a.ids ≡ b.ids → a.form ≡ b.form → a ≡ b
same_outline a b ids form =
    ap (λ (l : List TraceId). (let o : Outline = record { ids = l; form = a.form } in o)) ids ∙ ap (λ (n : ℕ). (let o : Outline = record { ids = b.ids; form = n } in o)) form

-- What is kept is the outline of the rows so far; they and those of the stripes that are left are the rows of all stripes.
pub record KeptSoFar (whole : Result (List Row) ℕ) (form : ℕ) (stripes : List StripeInfo) (i : ℕ) (last : Option Row) (bytes : List ℕ) (found : Outline) : Type 0 where
  pub rows : List Row
  pub told : with_later rows (stripes_of form (drop i stripes) last bytes) ≡ whole
  pub kept : found ≡ outline rows

pub nothing_kept : (whole : Result (List Row) ℕ) (form : ℕ) (stripes : List StripeInfo) (bytes : List ℕ) (found : Outline) → found.ids ≡ [] → found.form ≡ 1 → with_later [] (stripes_of form (drop 0 stripes) None bytes) ≡ whole
    → KeptSoFar whole form stripes 0 None bytes found
nothing_kept whole form stripes bytes found ids form_is told =
    record { rows = []; told = told; kept = same_outline found (outline []) ids form_is }

pub kept_more : (found new : Outline) (rows more : List Row) → found ≡ outline rows → new.ids ≡ found.ids ++ ids_of more → new.form ≡ max found.form (form_of_rows more) → new ≡ outline (rows ++ more)
kept_more found new rows more kept ids form =
    let all_ids : new.ids ≡ ids_of (rows ++ more) = ids ∙ ap (λ (o : Outline). o.ids ++ ids_of more) kept ∙ sym (map-append (λ (row : Row). row.span.trace) rows more) in
    let all_form : new.form ≡ form_of_rows (rows ++ more) = form ∙ ap (λ (o : Outline). max o.form (form_of_rows more)) kept ∙ sym (form_more rows more) in
    same_outline new (outline (rows ++ more)) all_ids all_form

abbrev pub AreLong : List TraceId → Type 0
AreLong ids = All (λ (id : TraceId). length id.0 ≡ 16) ids

pub still_long : (ids more new : List TraceId) → AreLong ids → AreLong more → new ≡ ids ++ more → AreLong new
still_long ids more new one two is = subst AreLong (sym is) (All-append (λ (id : TraceId). length id.0 ≡ 16) ids more one two)

-- ---- what was read, by its outline

pub outline_fails : (error : Break) (read : Result (List Row) ℕ) → Fails error read → Fails error (made_of outline read)
outline_fails breaks.Memory read fails = tt
outline_fails (breaks.At at) read fails = ap (made_of outline) fails

record Behind (read : Result (List Row) ℕ) (found : Outline) : Type 0 where
  rows : List Row
  is : read ≡ Ok rows
  same : found ≡ outline rows

same_found : (a b : Outline) → (let r : Result Outline ℕ = Ok a in let q : Result Outline ℕ = Ok b in r ≡ q) → a ≡ b
same_found a b e = cc

same_place : (a b : ℕ) → (let r : Result Outline ℕ = Err a in let q : Result Outline ℕ = Err b in r ≡ q) → a ≡ b
same_place a b e = cc

behind : (read : Result (List Row) ℕ) (found : Outline) → made_of outline read ≡ Ok found → Behind read found
behind (Ok rows) found e = record { rows = rows; is = refl; same = sym (same_found (outline rows) found e) }
behind (Err at) found e = absurd (cc)

err_behind : (read : Result (List Row) ℕ) (at : ℕ) → made_of outline read ≡ Err at → read ≡ Err at
err_behind (Ok rows) at e = absurd (cc)
err_behind (Err other) at e = ap (λ (k : ℕ). (let r : Result (List Row) ℕ = Err k in r)) (same_place other at e)

-- ---- what is told by it

abbrev pub listed_as : ℕ → ℕ → ℕ → List ℕ → Result InfoParts ℕ
listed_as file level rows bytes = made_of (info_read file level) (listed_at rows bytes)

pub no_header : (error : Break) (file level rows : ℕ) (bytes : List ℕ) → Fails error (header_of bytes) → Fails error (listed_as file level rows bytes)
unfolding listed_at block_at
no_header breaks.Memory file level rows bytes fails = tt
no_header (breaks.At at) file level rows bytes fails = rw fails refl

pub no_rows : (error : Break) (file level rows : ℕ) (bytes : List ℕ) (header : Header) → header_of bytes ≡ Ok header → Fails error (made_of outline (stripes_of header.form header.stripes None bytes)) → Fails error (listed_as file level rows bytes)
unfolding listed_at block_at
no_rows breaks.Memory file level rows bytes header head fails = tt
no_rows (breaks.At at) file level rows bytes header head fails =
    let read : stripes_of header.form header.stripes None bytes ≡ Err at = err_behind (stripes_of header.form header.stripes None bytes) at fails in
    rw (head, read) refl

pub no_tail : (error : Break) (file level rows : ℕ) (bytes : List ℕ) (header : Header) (found : Outline) → header_of bytes ≡ Ok header → made_of outline (stripes_of header.form header.stripes None bytes) ≡ Ok found
    → Fails error (indexed header found.ids bytes) → Fails error (listed_as file level rows bytes)
unfolding listed_at block_at
no_tail breaks.Memory file level rows bytes header found head read fails = tt
no_tail (breaks.At at) file level rows bytes header found head read fails =
    let b = behind (stripes_of header.form header.stripes None bytes) found read in
    let tail : indexed header (ids_of b.rows) bytes ≡ Err at = ap (λ (o : Outline). indexed header o.ids bytes) (sym b.same) ∙ fails in
    rw (head, b.is, tail) refl

abbrev block_with : Header → List Row → Block
block_with header rows = record { header = header; rows = rows }

-- what is left once header, stripes, index and filters are as they must be
abbrev left_if : (file level count : ℕ) (header : Header) (rows : List Row) → Bool → Result InfoParts ℕ
left_if file level count header rows form =
    made_of (info_read file level) (unless_not form 0 (block_with header rows) >>= λ (block : Block). unless_not (eqb (length block.rows) count) 0 block)

abbrev left : (file level count : ℕ) (header : Header) (rows : List Row) → Result InfoParts ℕ
left file level count header rows = left_if file level count header rows (eqb header.form (form_of_rows rows))

up_to_tail : (file level count : ℕ) (bytes : List ℕ) (header : Header) (rows : List Row) → header_of bytes ≡ Ok header → stripes_of header.form header.stripes None bytes ≡ Ok rows → indexed header (ids_of rows) bytes ≡ Ok (ids_of rows)
    → listed_as file level count bytes ≡ left file level count header rows
unfolding listed_at block_at
up_to_tail file level count bytes header rows head read tail = rw (head, read, tail) refl

last_test : (file level count : ℕ) (header : Header) (rows : List Row) (b : Bool) → eqb (length rows) count ≡ b → left_if file level count header rows true ≡ made_of (info_read file level) (unless_not b 0 (block_with header rows))
last_test file level count header rows b is = ap (λ (t : Bool). made_of (info_read file level) (unless_not t 0 (block_with header rows))) is

left_unlisted : (file level count : ℕ) (header : Header) (rows : List Row) → (eqb header.form (form_of_rows rows) && eqb (length rows) count) ≡ false → left file level count header rows ≡ Err 0
left_unlisted file level count header rows other =
    elim (eqb header.form (form_of_rows rows)) as (λ t. (t && eqb (length rows) count) ≡ false → left_if file level count header rows t ≡ Err 0) [
      | true ↦ λ h. last_test file level count header rows false h
      | false ↦ λ h. refl
    ] other

left_listed : (file level count : ℕ) (header : Header) (rows : List Row) → (eqb header.form (form_of_rows rows) && eqb (length rows) count) ≡ true → left file level count header rows ≡ Ok (info_of file level header (length rows))
left_listed file level count header rows all =
    let both = and_parts (eqb header.form (form_of_rows rows)) (eqb (length rows) count) all in
    ap (left_if file level count header rows) both.0 ∙ last_test file level count header rows true both.1

abbrev pub is_listed : Header → Outline → ℕ → Bool
is_listed header found count = eqb header.form found.form && eqb (length found.ids) count

by_rows : (header : Header) (found : Outline) (rows : List Row) (count : ℕ) → found ≡ outline rows → is_listed header found count ≡ (eqb header.form (form_of_rows rows) && eqb (length rows) count)
by_rows header found rows count same =
    ap (λ (o : Outline). is_listed header o count) same ∙ ap (λ (k : ℕ). eqb header.form (form_of_rows rows) && eqb k count) (length-map rows (λ (row : Row). row.span.trace))

pub unlisted : (file level count : ℕ) (bytes : List ℕ) (header : Header) (found : Outline) → header_of bytes ≡ Ok header → made_of outline (stripes_of header.form header.stripes None bytes) ≡ Ok found
    → indexed header found.ids bytes ≡ Ok found.ids → is_listed header found count ≡ false → listed_as file level count bytes ≡ Err 0
unlisted file level count bytes header found head read tail other =
    let b = behind (stripes_of header.form header.stripes None bytes) found read in
    let here : indexed header (ids_of b.rows) bytes ≡ Ok (ids_of b.rows) = subst (λ (o : Outline). indexed header o.ids bytes ≡ Ok o.ids) b.same tail in
    up_to_tail file level count bytes header b.rows head b.is here ∙ left_unlisted file level count header b.rows (sym (by_rows header found b.rows count b.same) ∙ other)

pub listed : (file level count : ℕ) (bytes : List ℕ) (header : Header) (found : Outline) (info : InfoParts) → header_of bytes ≡ Ok header → made_of outline (stripes_of header.form header.stripes None bytes) ≡ Ok found
    → indexed header found.ids bytes ≡ Ok found.ids → is_listed header found count ≡ true → info ≡ info_of file level header count → listed_as file level count bytes ≡ Ok info
listed file level count bytes header found info head read tail all is =
    let b = behind (stripes_of header.form header.stripes None bytes) found read in
    let here : indexed header (ids_of b.rows) bytes ≡ Ok (ids_of b.rows) = subst (λ (o : Outline). indexed header o.ids bytes ≡ Ok o.ids) b.same tail in
    let same = sym (by_rows header found b.rows count b.same) ∙ all in
    let size : length b.rows ≡ count = eqb-true (length b.rows) count (and_parts (eqb header.form (form_of_rows b.rows)) (eqb (length b.rows) count) same).1 in
    up_to_tail file level count bytes header b.rows head b.is here ∙ left_listed file level count header b.rows same
    ∙ ap (λ (k : ℕ). (let r : Result InfoParts ℕ = Ok (info_of file level header k) in r)) size ∙ ap (λ (x : InfoParts). (let r : Result InfoParts ℕ = Ok x in r)) (sym is)
