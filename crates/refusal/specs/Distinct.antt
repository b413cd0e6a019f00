-- A verdict's 16 bytes tell its four numbers.
use Rattle.std.specs.Prelude.{◌≡◌}
use Rattle.endian.specs.Little.{bytes}
use Rattle.endian.specs.RoundTrip.{value-bytes}
use Rattle.refusal.specs.declared.Code.{Code}
use Rattle.refusal.specs.Codes.{bytes_of, code_in, Fits32}

pub code_in_bytes_of : (c : Code) → Fits32 c → code_in (bytes_of c) ≡ c
unfolding bytes
code_in_bytes_of c w =
    rw (value-bytes 4 c.about w.about, value-bytes 4 c.number w.number, value-bytes 4 c.first w.first, value-bytes 4 c.second w.second)
