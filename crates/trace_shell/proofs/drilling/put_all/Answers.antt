use Rattle.std.proofs.Common.{◌∙◌, ◌++◌, [], List, string_bytes, subst, ℕ}
use Rattle.std.specs.Io.KnownBytes.{Appends}
use Rattle.std.proofs.lemmas.Result.{on_err_weaker, on_ok_weaker}
use Rattle.io_edges.specs.Devices.{AppendsPrefix}
use Rattle.trace_shell.proofs.DrillLemmas.{four_whole, on_err_any, prefix_here, prefix_then}
use Rattle.trace_shell.proofs.drilling.put_all.Goals as goal

pub returns-in_err-put-clause-part : goal.returns-in_err-put-clause-part
returns-in_err-put-clause-part g c =
    let t = c.args.texts.now in
    let one = c.as_bytes.ensures.value ∙ c.as_str.ensures.value in
    on_err_any _ (prefix_here _ _ (string_bytes t.report) (t.errors ++ (t.large ++ (t.crossing ++ [])))
    (subst (λ (bs : List ℕ). AppendsPrefix (g.K.Sink.taken c.args.sink.now) (g.K.Sink.taken c.put.new.self) bs) one c.in_err-put.ensures.part))

pub returns-in_err-put-2-clause-part : goal.returns-in_err-put-2-clause-part
returns-in_err-put-2-clause-part g c =
    let t = c.args.texts.now in
    let one = c.as_bytes.ensures.value ∙ c.as_str.ensures.value in
    let two = c.as_bytes-2.ensures.value ∙ c.as_str-2.ensures in
    let first = subst (λ (bs : List ℕ). Appends (g.K.Sink.taken c.args.sink.now) (g.K.Sink.taken c.put.new.self) bs) one c.in_ok-put.ensures.whole in
    on_err_any _ (prefix_then _ _ _ (string_bytes t.report) (t.errors ++ (t.large ++ (t.crossing ++ []))) first
    (prefix_here _ _ t.errors (t.large ++ (t.crossing ++ []))
    (subst (λ (bs : List ℕ). AppendsPrefix (g.K.Sink.taken c.put.new.self) (g.K.Sink.taken c.put-2.new.self) bs) two c.in_err-put-2.ensures.part)))

pub returns-in_err-put-3-clause-part : goal.returns-in_err-put-3-clause-part
returns-in_err-put-3-clause-part g c =
    let t = c.args.texts.now in
    let one = c.as_bytes.ensures.value ∙ c.as_str.ensures.value in
    let two = c.as_bytes-2.ensures.value ∙ c.as_str-2.ensures in
    let three = c.as_bytes-3.ensures.value ∙ c.as_str-3.ensures in
    let first = subst (λ (bs : List ℕ). Appends (g.K.Sink.taken c.args.sink.now) (g.K.Sink.taken c.put.new.self) bs) one c.in_ok-put.ensures.whole in
    let second = subst (λ (bs : List ℕ). Appends (g.K.Sink.taken c.put.new.self) (g.K.Sink.taken c.put-2.new.self) bs) two c.in_ok-put-2.ensures.whole in
    on_err_any _ (prefix_then _ _ _ (string_bytes t.report) (t.errors ++ (t.large ++ (t.crossing ++ []))) first
    (prefix_then _ _ _ t.errors (t.large ++ (t.crossing ++ [])) second
    (prefix_here _ _ t.large (t.crossing ++ [])
    (subst (λ (bs : List ℕ). AppendsPrefix (g.K.Sink.taken c.put-2.new.self) (g.K.Sink.taken c.put-3.new.self) bs) three c.in_err-put-3.ensures.part))))

pub returns-clause-whole : goal.returns-clause-whole
returns-clause-whole g c =
    let t = c.args.texts.now in
    let one = c.as_bytes.ensures.value ∙ c.as_str.ensures.value in
    let two = c.as_bytes-2.ensures.value ∙ c.as_str-2.ensures in
    let three = c.as_bytes-3.ensures.value ∙ c.as_str-3.ensures in
    let four = c.as_bytes-4.ensures.value ∙ c.as_str-4.ensures in
    let first = subst (λ (bs : List ℕ). Appends (g.K.Sink.taken c.args.sink.now) (g.K.Sink.taken c.put.new.self) bs) one c.in_ok-put.ensures.whole in
    let second = subst (λ (bs : List ℕ). Appends (g.K.Sink.taken c.put.new.self) (g.K.Sink.taken c.put-2.new.self) bs) two c.in_ok-put-2.ensures.whole in
    let third = subst (λ (bs : List ℕ). Appends (g.K.Sink.taken c.put-2.new.self) (g.K.Sink.taken c.put-3.new.self) bs) three c.in_ok-put-3.ensures.whole in
    on_ok_weaker c.put-4.result (λ (last : Appends (g.K.Sink.taken c.put-3.new.self) (g.K.Sink.taken c.put-4.new.self) c.as_bytes-4.result.now).
    four_whole _ _ _ _ _ (string_bytes t.report) t.errors t.large t.crossing first second third
    (subst (λ (bs : List ℕ). Appends (g.K.Sink.taken c.put-3.new.self) (g.K.Sink.taken c.put-4.new.self) bs) four last)) c.put-4.ensures.whole

pub returns-clause-part : goal.returns-clause-part
returns-clause-part g c =
    let t = c.args.texts.now in
    let one = c.as_bytes.ensures.value ∙ c.as_str.ensures.value in
    let two = c.as_bytes-2.ensures.value ∙ c.as_str-2.ensures in
    let three = c.as_bytes-3.ensures.value ∙ c.as_str-3.ensures in
    let four = c.as_bytes-4.ensures.value ∙ c.as_str-4.ensures in
    let first = subst (λ (bs : List ℕ). Appends (g.K.Sink.taken c.args.sink.now) (g.K.Sink.taken c.put.new.self) bs) one c.in_ok-put.ensures.whole in
    let second = subst (λ (bs : List ℕ). Appends (g.K.Sink.taken c.put.new.self) (g.K.Sink.taken c.put-2.new.self) bs) two c.in_ok-put-2.ensures.whole in
    let third = subst (λ (bs : List ℕ). Appends (g.K.Sink.taken c.put-2.new.self) (g.K.Sink.taken c.put-3.new.self) bs) three c.in_ok-put-3.ensures.whole in
    on_err_weaker c.put-4.result (λ (last : AppendsPrefix (g.K.Sink.taken c.put-3.new.self) (g.K.Sink.taken c.put-4.new.self) c.as_bytes-4.result.now).
    prefix_then _ _ _ (string_bytes t.report) (t.errors ++ (t.large ++ (t.crossing ++ []))) first
    (prefix_then _ _ _ t.errors (t.large ++ (t.crossing ++ [])) second
    (prefix_then _ _ _ t.large (t.crossing ++ []) third
    (prefix_here _ _ t.crossing []
    (subst (λ (bs : List ℕ). AppendsPrefix (g.K.Sink.taken c.put-3.new.self) (g.K.Sink.taken c.put-4.new.self) bs) four last))))) c.put-4.ensures.part
