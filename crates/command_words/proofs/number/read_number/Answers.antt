use Rattle.std.proofs.Common.{◌≡◌, ◌∙◌, ◌<◌, ◌^◌, decimal, sym, true, arith}
use Rattle.std.specs.Cmp.Lexicographic.{bytes_decides}
use Rattle.std.specs.Str.{bytes_eq}
use Rattle.command_words.proofs.Numbers.{in_is, misread, unread}
use Rattle.command_words.proofs.number.read_number.Goals as goal
use Rattle.command_words.proofs.number.read_number.Goals.{else-eq-via-then-eq+then-low-number+else-number-high, else-eq-via-then-eq+else-low-number, else-eq-via-else-eq}

pub returns-in_default : goal.returns-in_default
returns-in_default c =
    let fits : c.args.high < 2 ^ 64 = omega (arith, c.ranges.high.fits) in
    sym (unread c.args.low c.args.high c.args.text.now c.parse.result c.in_default.field-0 fits c.parse.ensures.value.0 c.in_default.is)

pub returns-then-number-high : goal.returns-then-number-high
returns-then-number-high c =
    let fits : c.args.high < 2 ^ 64 = omega (arith, c.ranges.high.fits) in
    let least = c.if-low-number.true in
    let most = c.if-number-high.true in
    let small : c.in-Ok.number < 2 ^ 64 = omega (arith, fits, most) in
    let same : c.as_str.result.now ≡ c.args.text.now = (bytes_decides c.as_str.result.now c.args.text.now).0 (sym c.eq.ensures ∙ c.if-eq.true) in
    let shown = c.as_str.ensures.value in
    let written = c.in_ok-written.ensures in
    let is : c.args.text.now ≡ decimal c.in-Ok.number = cc in
    sym (in_is c.args.low c.args.high c.in-Ok.number c.args.text.now small least most is)

pub returns : goal.returns
returns c =
    let fits : c.args.high < 2 ^ 64 = omega (arith, c.ranges.high.fits) in
    sym (misread c.args.low c.args.high c.in-Ok.number c.args.text.now c.parse.result fits c.parse.ensures.value.0 c.in-Ok.is (λ is least most. elim c.else-eq.branch [
      | else-eq-via-then-eq+then-low-number+else-number-high w ↦ (let more = w.if-number-high.false in absurd (omega (arith, more, most)))
      | else-eq-via-then-eq+else-low-number w ↦ (let less = w.if-low-number.false in absurd (omega (arith, less, least)))
      | else-eq-via-else-eq w ↦ (
          let shown = c.as_str.ensures.value in
          let written = c.in_ok-written.ensures in
          let same : c.as_str.result.now ≡ c.args.text.now = cc in
          let equal : bytes_eq c.as_str.result.now c.args.text.now ≡ true = (bytes_decides c.as_str.result.now c.args.text.now).1 same in
          let told = c.eq.ensures in
          let not = w.if-eq.false in
          let bad : ⊥ = cc in
          bad
          )
    ]))
