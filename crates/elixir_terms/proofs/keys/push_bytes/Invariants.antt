use Rattle.std.proofs.Common.{◌≡◌, ◌∷◌, ◌++◌, drop}
use Rattle.elixir_terms.specs.KeyCode.{bytes_code}
use Rattle.elixir_terms.proofs.keys.push_bytes.Given as goal

abbrev pub invariant-loop-byte : goal.invariant-loop-byte
invariant-loop-byte l = l.code.items ++ bytes_code (drop l.byte-index l.bytes) ≡ l.fn.code.items ++ l.kind ∷ bytes_code l.bytes
