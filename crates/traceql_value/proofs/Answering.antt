-- The patterns that answer for a query's strings.
use Rattle.std.proofs.Common.{◌≡◌, ℕ, zero, suc, ◌<◌, Bool, true, false, cond, List, [], ◌∷◌, length, get_or, map, All, bytes_eq, sym, subst, ap, arith, ◌∙◌, refl}
use Rattle.std.specs.Prelude.{is_some}
use Rattle.std.specs.Cmp.Lexicographic.{bytes_decides, nat_list_eq_equiv}
use Rattle.std.proofs.lemmas.List.{get_or-map, length-map}
use Rattle.regex.specs.Patterns.{find_str}
use Rattle.traceql_types.specs.declared.pattern.Pattern.{Pattern}
use Rattle.traceql_types.specs.Asked.{PlacedText}
use Rattle.traceql_types.specs.Checks.{AreMade}
use Rattle.traceql_types.specs.Patterns.{pattern_text, pattern_re}
use Rattle.traceql_types.specs.Whole.{whole_text, IsReadAs}
use Rattle.traceql_value.specs.Meaning.{matches}
use Rattle.traceql_value.specs.Readings.{IsAnswered}

by_head : (p : Pattern) (ps : List Pattern) (string : List ℕ) → bytes_eq (pattern_text p) string ≡ true → IsAnswered (p ∷ ps) string
by_head p ps string t =
    let same : pattern_text p ≡ string = (bytes_decides (pattern_text p) string).0 t in (
      p,
      record {
        listed = (0, omega arith, refl);
        shows = same;
        reading = subst (λ s. IsReadAs (whole_text s) (pattern_re p)) same (p.regex, p.whole, p.options, p.read, refl);
        answers = λ text. ap (λ b. cond b (is_some (find_str (pattern_re p) text 0)) (matches ps string text)) t;
      },
    )

by_rest : (p : Pattern) (ps : List Pattern) (string : List ℕ) → bytes_eq (pattern_text p) string ≡ false → IsAnswered ps string → IsAnswered (p ∷ ps) string
by_rest p ps string f (q, h) =
    let (k, within, is) = h.listed in (
      q,
      record {
        listed = (suc k, omega arith, is);
        shows = h.shows;
        reading = h.reading;
        answers = λ text. ap (λ b. cond b (is_some (find_str (pattern_re p) text 0)) (matches ps string text)) f ∙ h.answers text;
      },
    )

one_more : (b : Bool) (p : Pattern) (ps : List Pattern) (string : List ℕ) → bytes_eq (pattern_text p) string ≡ b → IsAnswered ps string → IsAnswered (p ∷ ps) string
one_more true p ps string t h = by_head p ps string t
one_more false p ps string f h = by_rest p ps string f h

-- the first pattern of a string answers for it
answered_at : (ps : List Pattern) (k : ℕ) (d : List ℕ) → k < length ps → IsAnswered ps (get_or (map pattern_text ps) k d)
answered_at [] k d lt = absurd (omega arith)
answered_at (p ∷ ps) zero d lt = by_head p ps (pattern_text p) (nat_list_eq_equiv.refl (pattern_text p))
answered_at (p ∷ ps) (suc k) d lt =
    one_more (bytes_eq (pattern_text p) (get_or (map pattern_text ps) k d)) p ps (get_or (map pattern_text ps) k d) refl (answered_at ps k d (omega arith))

-- where the patterns were made of what was asked for, each string of it is answered
pub made_answered : (asked : List PlacedText) (ps : List Pattern) → AreMade asked ps → All (λ m. IsAnswered ps m.1) asked
made_answered asked ps made = λ k d lt.
    let within : k < length ps = subst (λ n. k < n) (sym (length-map asked (λ m. m.1)) ∙ ap length (sym made) ∙ length-map ps pattern_text) lt in
    subst (IsAnswered ps) (ap (λ l. get_or l k d.1) made ∙ get_or-map (λ m. m.1) asked k d d.1 lt) (answered_at ps k d.1 within)
