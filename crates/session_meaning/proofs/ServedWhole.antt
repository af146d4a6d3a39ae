-- That each item of each script has its reply, where no script ended before its last item.
use Rattle.std.proofs.Common.{◌≡◌, ◌∙◌, ℕ, suc, ◌+◌, ◌≤◌, ◌||◌, Bool, true, false, List, [], ◌∷◌, map, length, ap, refl, sym, subst}
use Rattle.std.proofs.lemmas.List.{take_all}
use Rattle.client_scripts.specs.Scripts as by_script
use Rattle.client_scripts.specs.Served.{AreServed}
use Rattle.client_scripts.specs.declared.script.Answered.{Answered}
use Rattle.port_history.specs.Entries.{Entry, call_of, own}
use Rattle.session_text.specs.declared.reply.Reply.{Reply}
use Rattle.session_text.specs.Items.{Item}
use Rattle.store_state.specs.Made.{Call}
use Rattle.session_meaning.specs.At.{At}
use Rattle.session_meaning.specs.ServedRuns.{any_starved}
use Rattle.session_meaning.specs.ServedWhole.{AreWhole}
use Rattle.session_meaning.specs.Serving.{Ran}
use Rattle.session_meaning.proofs.ServedLaws.{not_fewer}

as_many : (items : List Item) (replies : List Reply) (calls : List Call) → by_script.AreItemsAnswered items replies calls → length replies ≡ length items
as_many [] replies calls are = ap length are.0
as_many (i ∷ items) [] calls are = absurd are
as_many (i ∷ items) (r ∷ replies) calls (now, later, is, one, rest) = ap (λ (n : ℕ). suc n) (as_many items replies later rest)

whole_script : (script : List Item) (answered : Answered) (calls : List Call) → by_script.IsScriptAnswered script answered calls → answered.starved ≡ false
    → length answered.replies.items ≡ length script
whole_script script answered calls is whole =
    let n = length answered.replies.items in
    let enough : length script ≤ n = not_fewer n (length script) (sym is.starved ∙ whole) in
    as_many script answered.replies.items calls
    (subst (λ (items : List Item). by_script.AreItemsAnswered items answered.replies.items calls) (take_all n script enough) is.first)

neither : (a b : Bool) → (a || b) ≡ false → (a ≡ false) × (b ≡ false)
neither true b e = let bad : ⊥ = cc in absurd bad
neither false b e = (refl, e)

all_whole : (number : ℕ) (scripts : List (List Item)) (answers : List Answered) (entries : List Entry) → AreServed number scripts answers entries → any_starved answers ≡ false → AreWhole scripts answers
all_whole number [] answers entries served whole = served
all_whole number (script ∷ scripts) [] entries served whole = absurd served
all_whole number (script ∷ scripts) (answered ∷ answers) entries (one, rest) whole =
    let both = neither answered.starved (any_starved answers) whole in
    (whole_script script answered (map call_of (own (number ∷ []) entries)) one both.0, all_whole (number + 1) scripts answers entries rest both.1)

pub each_replied : (told : Bool) (first last : At) (scripts : List (List Item)) (answers : List Answered) (entries : List Entry) → Ran told first scripts answers entries last
    → any_starved answers ≡ false → AreWhole scripts answers
each_replied told first last scripts answers entries ran whole = all_whole 0 scripts answers entries ran.served whole
