use native.Mathlib.Omega.{arith}
use Rattle.row.proofs.FloorBytes.{file_length_lem}
use Rattle.plancheck.proofs.judge_clauses.Goals as goal

pub borne-marks-requires : goal.borne-marks-requires
borne-marks-requires c = omega (arith, file_length_lem c.args.floor.now c.args.r.now.floor c.requires.readable.accepted_floor)
