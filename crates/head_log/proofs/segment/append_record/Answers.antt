use Rattle.std.proofs.Common.{◌≡◌, ◌+◌, ◌∷◌, [], ℕ, List, length, ap, sym, subst, ◌∙◌}
use Rattle.std.specs.Prelude.{IsTrue, ◌++◌}
use Rattle.disk_model.specs.Images.{bytes_of}
use Rattle.disk_model.specs.Bytes.{overwritten, Torn}
use Rattle.disk_model.specs.Crash.{OnlyBytes}
use Rattle.disk_model.proofs.Passing.{passes_more, passes_then}
use Rattle.head_log.specs.Records.{framed, HasBodies}
use Rattle.head_log.proofs.Appending.{gate_torn, gate_opened, earlier, on_ok_both}
use Rattle.head_log.proofs.Standing.{Anything, passes_any}
use Rattle.head_log.proofs.segment.append_record.Goals as goal

pub returns-in_err-write_through-clause-any_moment : goal.returns-in_err-write_through-clause-any_moment
returns-in_err-write_through-clause-any_moment g c = λ bodies body known tells text fits only has.
    let first = c.in_err-write_through.ensures.passes known only in
    let more = λ (bytes : List ℕ) (torn : Torn (c.args.gate + 1) (length c.args.text.now) known bytes). earlier bodies body c.args.gate (length c.args.text.now) known bytes has torn in
    passes_more _ _ _ _ _ _ _ _ _ _ first more more

pub returns-clause-any_moment : goal.returns-clause-any_moment
returns-clause-any_moment g c = λ bodies body known tells text fits only has.
    let D = g.D.Device in
    let first = c.in_ok-write_through.ensures.passes known only in
    let more = λ (bytes : List ℕ) (torn : Torn (c.args.gate + 1) (length c.args.text.now) known bytes). earlier bodies body c.args.gate (length c.args.text.now) known bytes has torn in
    let held : bytes_of (D.held c.args.disk.now) c.args.file ≡ known = only (D.held c.args.disk.now) (g.met.D.Device.held_may_stay c.args.disk.now tells) in
    let now : bytes_of (D.held c.write_through.new.disk) c.args.file ≡ overwritten known (c.args.gate + 1) (framed body) =
    c.in_ok-write_through.ensures.written tells ∙ ap (λ (b : List ℕ). overwritten b (c.args.gate + 1) c.args.text.now) held ∙ ap (overwritten known (c.args.gate + 1)) text in
    let lasting : OnlyBytes c.args.file (overwritten known (c.args.gate + 1) (framed body)) (D.may_leave c.write_through.new.disk) =
    subst (λ (b : List ℕ). OnlyBytes c.args.file b (D.may_leave c.write_through.new.disk)) now (c.in_ok-write_through.ensures.lasting tells) in
    let second = c.write_through-2.ensures.passes (overwritten known (c.args.gate + 1) (framed body)) lasting in
    let gated = λ (bytes : List ℕ) (torn : Torn c.args.gate 1 (overwritten known (c.args.gate + 1) (framed body)) bytes). gate_torn bodies c.args.gate known body bytes has fits torn in
    passes_then _ _ _ _ _ _ _ _ _ _ _ (passes_more _ _ _ _ _ _ _ _ _ _ first more more) (passes_more _ _ _ _ _ _ _ _ _ _ second gated gated) (λ bytes is. is)

pub returns-clause-acknowledged : goal.returns-clause-acknowledged
returns-clause-acknowledged g c = λ bodies body known tells text fits only has.
    let D = g.D.Device in
    let gate = c.args.gate in
    let file = c.args.file in
    let held : bytes_of (D.held c.args.disk.now) file ≡ known = only (D.held c.args.disk.now) (g.met.D.Device.held_may_stay c.args.disk.now tells) in
    let now : bytes_of (D.held c.write_through.new.disk) file ≡ overwritten known (gate + 1) (framed body) =
    c.in_ok-write_through.ensures.written tells ∙ ap (λ (b : List ℕ). overwritten b (gate + 1) c.args.text.now) held ∙ ap (overwritten known (gate + 1)) text in
    let told : IsTrue (D.tells c.write_through.new.disk) = subst IsTrue (sym c.in_ok-write_through.ensures.counted.telling) tells in
    let end : gate + length (framed body) ≡ gate + length c.args.text.now = ap (λ (b : List ℕ). gate + length b) (sym text) in
    let opened = gate_opened bodies gate known body has fits in
    on_ok_both c.write_through-2.result _ _ _ (c.write_through-2.ensures.written told) (c.write_through-2.ensures.lasting told)
    (λ bytes lasting.
    let is = bytes ∙ ap (λ (b : List ℕ). overwritten b gate (1 ∷ [])) now in
    (subst (λ (b : List ℕ). HasBodies (bodies ++ body ∷ []) (gate + length c.args.text.now) b) (sym is) (subst (λ (k : ℕ). HasBodies (bodies ++ body ∷ []) k (overwritten (overwritten known (gate + 1) (framed body)) gate (1 ∷ []))) end opened), lasting))

pub returns-in_err-write_through-clause-any_file : goal.returns-in_err-write_through-clause-any_file
returns-in_err-write_through-clause-any_file g c =
    let D = g.D.Device in
    let e = c.in_err-write_through.ensures in
    passes_any D.moment D.left_since D.may_leave c.args.file (Torn (c.args.gate + 1) (length c.args.text.now)) c.args.disk.now _ e.any_moment e.crash

pub returns-clause-any_file : goal.returns-clause-any_file
returns-clause-any_file g c =
    let D = g.D.Device in
    let file = c.args.file in
    let one = c.in_ok-write_through.ensures in
    let two = c.write_through-2.ensures in
    let first = passes_any D.moment D.left_since D.may_leave file (Torn (c.args.gate + 1) (length c.args.text.now)) c.args.disk.now c.write_through.new.disk one.any_moment one.crash in
    let second = passes_any D.moment D.left_since D.may_leave file (Torn c.args.gate 1) c.write_through.new.disk c.write_through-2.new.disk two.any_moment two.crash in
    passes_then D.moment D.left_since D.may_leave file Anything Anything Anything Anything c.args.disk.now c.write_through.new.disk c.write_through-2.new.disk first second (λ bytes is. is)
