-- Pages that are read to a block are the whole of a file that holds one.
use Rattle.std.proofs.Common.{◌≡◌, ℕ, zero, suc, ◌+◌, ◌-◌, ◌*◌, List, [], ◌++◌, length, take, drop, replicate, inl, inr, refl, sym, ap, subst, ◌∙◌, arith, append-nil, append_assoc}
use Rattle.std.proofs.lemmas.Bool.{cases_lt}
use Rattle.std.proofs.lemmas.List.{length-append, length-replicate, length-take, take_all, take-append-drop}
use Rattle.span_types.specs.declared.spans.Row.{Row}
use Rattle.block_format.specs.declared.header.Header.{Header}
use Rattle.block_format.specs.Blocks.{BlockHasHeader, BlockHolds, index_page_of, info_of}
use Rattle.block_format.proofs.BlockLaws.{same_block}
use Rattle.block_format.proofs.HeaderLaws.{one_front}
use Rattle.store_state.specs.Written.{page_of}
use Rattle.compactor.specs.Tasks.{first_pages}
use Rattle.compactor.proofs.BlockLaws.{Sizes, within_file}

-- how many pages a block has by its header
abbrev size_by : Header → ℕ
size_by header = index_page_of header + header.index_pages + header.bloom_pages

long_by : Sizes → (header : Header) (bytes : List ℕ) (rows : List Row) → BlockHasHeader header bytes rows → length bytes ≡ 4096 * size_by header
long_by sizes header bytes rows has = sizes bytes rows (info_of 0 0 header (length rows)) (record { header = header; parts = has; info_is = refl })

-- two blocks, one of which begins with the other, have one header
one_header : (short long more : List ℕ) (header other : Header) (rows others : List Row) → long ≡ short ++ more → BlockHasHeader header short rows → BlockHasHeader other long others → header ≡ other
one_header short long more header other rows others is one two =
    (one_front long one.front two.front _ _ header other one.header_holds two.header_holds (is ∙ ap (λ (l : List ℕ). l ++ more) one.bytes_are ∙ append_assoc one.front _ more) two.bytes_are).0

-- so they are as long
as_long : Sizes → (short long more : List ℕ) (rows others : List Row) → long ≡ short ++ more → BlockHolds short rows → BlockHolds long others → length short ≡ length long
as_long sizes short long more rows others is one two =
    long_by sizes one.header short rows one.parts
    ∙ ap (λ (h : Header). 4096 * size_by h) (one_header short long more one.header two.header rows others is one.parts two.parts)
    ∙ sym (long_by sizes two.header long others two.parts)

-- ---- pages

page_size : (file : List ℕ) (page : ℕ) → length (page_of file page) ≡ 4096
page_size file page =
    let rest = drop (page * 4096) file in
    let zeros : List ℕ = replicate 4096 0 in
    let one = length-take 4096 (rest ++ zeros) in
    let two = length-append rest zeros in
    let three : length zeros ≡ 4096 = length-replicate {A = ℕ} 4096 0 in
    omega (arith, one, two, three)

pages_size : (file : List ℕ) (pages : ℕ) → length (first_pages file pages) ≡ 4096 * pages
pages_size file zero = refl
pages_size file (suc pages) =
    let inner = pages_size file pages in
    let page = page_size file pages in
    let both = length-append (first_pages file pages) (page_of file pages) in
    omega (arith, inner, page, both)

whole_pages : (file : List ℕ) (total pages : ℕ) → length file ≡ 4096 * total → pages ≡ total → first_pages file pages ≡ file
whole_pages file total pages size same = within_file file total pages size (omega (arith, same)) ∙ take_all (4096 * pages) file (omega (arith, size, same))

-- past a file's end its first pages begin with all of it
past_end : (file : List ℕ) (total more pages : ℕ) → length file ≡ 4096 * total → pages ≡ more + total → (rest : List ℕ) × (first_pages file pages ≡ file ++ rest)
past_end file total zero pages size count = ([], whole_pages file total pages size (omega (arith, count)) ∙ sym (append-nil file))
past_end file total (suc more) zero size count = absurd (omega (arith, count))
past_end file total (suc more) (suc pages) size count =
    let inner = past_end file total more pages size (omega (arith, count)) in
    (inner.0 ++ page_of file pages, ap (λ (l : List ℕ). l ++ page_of file pages) inner.1 ∙ append_assoc file inner.0 (page_of file pages))

-- ---- rows

one_rows : (bytes : List ℕ) (rows others : List Row) → BlockHolds bytes rows → BlockHolds bytes others → rows ≡ others
one_rows bytes rows others one two = (same_block bytes one.header two.header rows others one.parts two.parts).rows_are

-- What a file's first pages are read to is what the file holds, where it holds a block.
pub same_rows : Sizes → (file : List ℕ) (pages : ℕ) (rows others : List Row) → BlockHolds (first_pages file pages) rows → BlockHolds file others → rows ≡ others
same_rows sizes file pages rows others read held =
    one_rows file rows others (subst (λ (l : List ℕ). BlockHolds l rows) (whole_pages file total pages size as_many) read) held
  where
    total : ℕ
    total = size_by held.header

    size : length file ≡ 4096 * total
    size = long_by sizes held.header file others held.parts

    long : length (first_pages file pages) ≡ 4096 * pages
    long = pages_size file pages

    as_many : pages ≡ total
    as_many = elim (cases_lt pages total) [
      | inl lt ↦
          let front : first_pages file pages ≡ take (4096 * pages) file = within_file file total pages size (omega (arith, lt)) in
          let whole : file ≡ first_pages file pages ++ drop (4096 * pages) file = sym (take-append-drop (4096 * pages) file) ∙ ap (λ (l : List ℕ). l ++ drop (4096 * pages) file) (sym front) in
          let same = as_long sizes (first_pages file pages) file (drop (4096 * pages) file) rows others whole read held in
          omega (arith, same, size, long)
      | inr le ↦
          let behind = past_end file total (pages - total) pages size (omega (arith, le)) in
          let same = as_long sizes file (first_pages file pages) behind.0 others rows behind.1 held read in
          omega (arith, same, size, long)
    ]
