use Rattle.std.proofs.Common.{◌≡◌, ◌+◌, ◌-◌, ◌≤◌, ◌∙◌, ap, sym, arith, length, length-take, take, drop}
use Rattle.live_traces.proofs.Ranges.{part_of}
use Rattle.live_traces.proofs.run.Run.part.Goals as goal

pub returns : goal.returns
returns c =
    let size : length c.args.self.now ≡ length (take (c.self.inside.to - c.self.inside.from) (drop c.self.inside.from c.self.inside.rows.items)) = ap length (sym c.self.view_is) in
    let within : c.args.high ≤ c.self.inside.to - c.self.inside.from =
    omega (arith, size, length-take (c.self.inside.to - c.self.inside.from) (drop c.self.inside.from c.self.inside.rows.items), c.requires.1) in
    ap (λ rows. take ((c.self.inside.from + c.args.high) - (c.self.inside.from + c.args.low)) (drop (c.self.inside.from + c.args.low) rows.items)) c.in_ok-rows.ensures
    ∙ part_of c.self.inside.rows.items c.self.inside.from c.self.inside.to c.args.low c.args.high c.requires.0 within
    ∙ ap (λ rows. take (c.args.high - c.args.low) (drop c.args.low rows)) c.self.view_is
