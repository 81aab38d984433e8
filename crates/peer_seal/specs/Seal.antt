-- HMAC (RFC 2104) over SHA-256, whose block has 64 bytes.
use Rattle.std.specs.Prelude.{ℕ, ◌-◌, List, ◌++◌, length, map, replicate, bit_xor, nat_lt, if◌then◌else◌}
use Rattle.sha2.specs.Sha256.{sha256}
use Rattle.hex.specs.Hex.{encode_lower}

-- a key that is longer than a block is hashed first
abbrev pub within_block : List ℕ → List ℕ
within_block key = if nat_lt 64 (length key) then sha256 key else key

-- and filled with zeros to a block
abbrev pub block_of : List ℕ → List ℕ
block_of key = within_block key ++ replicate (64 - length (within_block key)) 0

-- the block with each byte changed by a pad
abbrev pub padded : ℕ → List ℕ → List ℕ
padded pad key = map (λ byte. bit_xor byte pad) (block_of key)

-- the outer pad is 0x5c and the inner pad 0x36
unfoldable pub hmac : List ℕ → List ℕ → List ℕ
hmac key bytes = sha256 (padded 92 key ++ sha256 (padded 54 key ++ bytes))

-- as it is spelled
abbrev pub seal_digits : List ℕ → List ℕ → List ℕ
seal_digits key bytes = encode_lower (hmac key bytes)
