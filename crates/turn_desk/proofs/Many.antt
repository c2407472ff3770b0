-- A desk's first seat has parts for 4096 splits: what the pool of a server needs of `share`.
use Rattle.std.proofs.Common.{◌≡◌, ℕ, suc, ◌≤◌, ◌+◌, ◌*◌, ◌^◌, ◌-◌, arith}
use Rattle.turn_desk.specs.Desk.{share}

-- the first seat, which has 2^64 - 1 parts, has parts for 4096 splits
pub first_has_parts : (count parts : ℕ) → count ≤ 4096 → parts ≡ 2 ^ 64 - 1 → (count * 2 ^ 52 ≤ parts + 1) × (parts + 1 ≤ 2 ^ 64)
first_has_parts count parts most is = (omega (arith, is, most), omega (arith, is))

-- a split gives a 4096th of the parts away
pub gives_little : (parts count : ℕ) → suc count * 2 ^ 52 ≤ parts + 1 → parts + 1 ≤ 2 ^ 64 → (count * 2 ^ 52 ≤ (parts - share parts) + 1) × ((parts - share parts) + 1 ≤ 2 ^ 64)
gives_little parts count enough most = (omega (arith, enough, most), omega (arith, enough, most))
