-- Private mechanism: how a prepared record is kept.
use Rattle.std.specs.Prelude.{◌≡◌, ℕ, ◌-◌, ◌<◌, ◌^◌, List, length, take, drop}
use Rattle.head_log.specs.Records.{framed}

-- the body between its length and the next gate
abbrev pub body_of : List ℕ → List ℕ
body_of text = drop 8 (take (length text - 1) text)

pub record IsFramed (text : List ℕ) : Type 0 where
  pub parts : text ≡ framed (body_of text)
  pub short : length (body_of text) < 2 ^ 64
