-- What a line gives whenever it is pushed, and how a window grows.
use Rattle.std.proofs.Common.{◌≡◌, ◌⊎◌, inl, inr, ◌∙◌, ℕ, ◌+◌, ◌<◌, Bool, true, false, List, [], ◌∷◌, ◌++◌, Option, Result, Ok, Err, nat_le, length, codes, refl, sym, ap, subst, suc, arith, append_assoc, append-nil, if◌then◌else◌}
use Rattle.std.specs.Prelude.{slice_index_or}
use Rattle.io_edges.specs.Lines.{line_limit, lines}
use Rattle.io_edges.specs.Reader.{IsNextLine}
use Rattle.otlp_spans.specs.Reading.{Given, reading_of}
use Rattle.otlp_spans.specs.Reading as otlp
use Rattle.otlp_spans.specs.declared.read.Reading.{Reading}
use Rattle.session_text.specs.declared.refusal.Refusal.{Refusal}
use Rattle.session_text.specs.declared.refusal.Refusal.TheVariants.{Memory, TooLong}
use Rattle.session_text.specs.declared.request.Request.{Request}
use Rattle.session_text.specs.declared.request.Request.TheVariants as request
use Rattle.session_text.specs.Requests.{Answers, AsksPush, Line, plain, pushed, request_of}
use Rattle.line_windows.specs.declared.line.WindowLine.{WindowLine}
use Rattle.line_windows.specs.Windows.{AreNextLines, AreOf, Gives, IsOf, IsPush, IsWindow}

-- ---- what a line gives

abbrev asked : ℕ → Bool → List ℕ → Line
asked moment fits line = if fits then request_of moment (codes "push " ++ line) else plain (Err (TooLong (length line)))

no_ok : (asks : Request) (why : Refusal) → Ok asks ≡ Err why → ⊥
no_ok asks why is = cc

no_err : (asks : Request) (why : Refusal) → Err why ≡ Ok asks → ⊥
no_err asks why is = cc

pushed_so : (r : Result Given otlp.Refusal) (reading : Reading) (first at moment : ℕ) → (Ok (request.Push reading at) ≡ pushed first r) ⊎ (Ok (request.Push reading at) ≡ Err Memory)
    → Ok (request.Push reading moment) ≡ pushed moment r
pushed_so (Ok given) reading first at moment (inl is) = cc
pushed_so (Err why) reading first at moment (inl is) = absurd (no_ok _ _ is)
pushed_so r reading first at moment (inr is) = absurd (no_ok _ _ is)

-- What gives spans gives them whenever it is pushed.
pub gives_reading : (line : List ℕ) (reading : Reading) (first at : ℕ) → AsksPush first line (Ok (request.Push reading at)) → Gives line (Ok reading)
gives_reading line reading first at asks moment = go (nat_le (length line) line_limit) asks
  where
    go : (fits : Bool) → Answers (asked first fits line) [] (Ok (request.Push reading at)) → Answers (asked moment fits line) [] (Ok (request.Push reading moment))
    go true (is, none) = (inl (pushed_so (reading_of line) reading first at moment is), none)
    go false (inl is, none) = absurd (no_ok _ _ is)
    go false (inr is, none) = absurd (no_ok _ _ is)

refused_so : (r : Result Given otlp.Refusal) (why : Refusal) (first moment : ℕ) → Err why ≡ pushed first r → Err why ≡ pushed moment r
refused_so (Ok given) why first moment is = absurd (no_err _ _ is)
refused_so (Err other) why first moment is = is

-- What is refused is refused so whenever it is pushed.
pub gives_refusal : (line : List ℕ) (why : Refusal) (first : ℕ) → AsksPush first line (Err why) → Gives line (Err why)
gives_refusal line why first asks moment = go (nat_le (length line) line_limit) asks
  where
    go : (fits : Bool) → Answers (asked first fits line) [] (Err why) → Answers (asked moment fits line) [] (Err why)
    go true (inl is, none) = (inl (refused_so (reading_of line) why first moment is), none)
    go true (inr is, none) = (inr is, none)
    go false same = same

only_pushes : (r : Result Given otlp.Refusal) (asks : Request) (moment : ℕ) → Ok asks ≡ pushed moment r → IsPush asks
only_pushes (Ok given) asks moment is =
    let same : asks ≡ request.Push (record { batch = record { spans = given.spans }; rejected = given.rejected; skipped = given.skipped }) moment = cc in
    subst IsPush (sym same) tt
only_pushes (Err why) asks moment is = absurd (no_ok _ _ is)

-- A line of a source whose lines are pushed asks nothing but a push.
pub asks_push : (line : List ℕ) (asks : Request) (moment : ℕ) → AsksPush moment line (Ok asks) → IsPush asks
asks_push line asks moment = go (nat_le (length line) line_limit)
  where
    go : (fits : Bool) → Answers (asked moment fits line) [] (Ok asks) → IsPush asks
    go true (inl is, none) = only_pushes (reading_of line) asks moment is
    go true (inr is, none) = absurd (no_ok _ _ is)
    go false (inl is, none) = absurd (no_ok _ _ is)
    go false (inr is, none) = absurd (no_ok _ _ is)

-- A line of too many bytes is refused whenever it is pushed.
pub gives_too_long : (size : ℕ) (line : List ℕ) → line_limit < size → size ≡ length line → Gives line (Err (TooLong size))
gives_too_long size line long is moment =
    let over : line_limit < length line = subst (λ (n : ℕ). line_limit < n) is long in
    subst (λ (n : ℕ). AsksPush moment line (Err (TooLong n))) (sym is) (rw (not_within (length line) over) (inl refl, refl))
  where
    not_within : (n : ℕ) → line_limit < n → nat_le n line_limit ≡ false
    not_within n h = grind arith

-- ---- how a window grows

are_one_more : (ls : List (List ℕ)) (window : List WindowLine) (line : List ℕ) (found : WindowLine) → AreOf ls window → IsOf line found → AreOf (ls ++ line ∷ []) (window ++ found ∷ [])
are_one_more [] [] line found are is = (is, tt)
are_one_more [] (w ∷ ws) line found are is = absurd are
are_one_more (l ∷ ls) [] line found are is = absurd are
are_one_more (l ∷ ls) (w ∷ ws) line found (one, are) is = (one, are_one_more ls ws line found are is)

pub window_begins : (line text : List ℕ) (first : WindowLine) (ToRead : List ℕ → Type 0) → IsOf line first → ToRead text → IsWindow line text (first ∷ []) ToRead
window_begins line text first ToRead is to_read = ([], record { past = []; rest = text; parts = refl; first = refl; after = to_read }, (is, tt))

pub window_grows : (line text : List ℕ) (window : List WindowLine) (found : WindowLine) (Before After : List ℕ → Type 0)
    → ((rest : List ℕ) → Before rest → (next : List ℕ) × IsNextLine rest next After × IsOf next found)
    → IsWindow line text window Before → IsWindow line text (window ++ found ∷ []) After
window_grows line text window found Before After reads (more, at, are) =
    let next = reads at.rest at.after in (
      more ++ next.0 ∷ [],
      record {
        past = at.past ++ next.1.past;
        rest = next.1.rest;
        parts = at.parts ∙ ap (λ (xs : List ℕ). at.past ++ xs) next.1.parts ∙ sym (append_assoc at.past next.1.past next.1.rest);
        first = at.first ∙ ap (λ (ls : List (List ℕ)). more ++ ls) next.1.first ∙ sym (append_assoc more (next.0 ∷ []) (lines next.1.rest));
        after = next.1.after;
      },
      are_one_more (line ∷ more) window next.0 found are next.2,
    )

pub window_stays : (line text : List ℕ) (window : List WindowLine) (Before After : List ℕ → Type 0) → ((rest : List ℕ) → Before rest → After rest)
    → IsWindow line text window Before → IsWindow line text window After
window_stays line text window Before After reads (more, at, are) =
    (more, record { past = at.past; rest = at.rest; parts = at.parts; first = at.first; after = reads at.rest at.after }, are)

-- ---- lines one by one

-- What stands for a line at each place still does.
pub are_each : (ls : List (List ℕ)) (old new : List WindowLine) → length new ≡ length old
    → ((k : ℕ) (d : WindowLine) → k < length old → (bytes : List ℕ) → IsOf bytes (slice_index_or old k d) → IsOf bytes (slice_index_or new k d))
    → AreOf ls old → AreOf ls new
are_each [] [] [] same each are = tt
are_each [] [] (n ∷ ns) same each are = absurd (omega (arith, same))
are_each [] (o ∷ os) new same each are = absurd are
are_each (l ∷ ls) [] new same each are = absurd are
are_each (l ∷ ls) (o ∷ os) [] same each are = absurd (omega (arith, same))
are_each (l ∷ ls) (o ∷ os) (n ∷ ns) same each (one, are) = (
  each 0 o (omega arith) l one,
  are_each ls os ns (omega (arith, same)) (λ k d low. each (suc k) d (omega (arith, low))) are,
)
