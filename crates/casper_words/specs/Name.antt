use Rattle.std.specs.Prelude.{ℕ, ◌≤◌, Bool, ◌&&◌, ◌||◌, ◌==◌, nat_le, List, length, IsTrue}
use Rattle.std.specs.List.{list_all}

-- a byte of a name: `a` to `z`, `0` to `9`, `_` or `-`
abbrev pub is_name_byte : ℕ → Bool
is_name_byte byte = (nat_le 97 byte && nat_le byte 122) || (nat_le 48 byte && nat_le byte 57) || byte == 95 || byte == 45

-- the bytes of a name: 1 to 24 of its alphabet
pub record IsName (bytes : List ℕ) : Type 0 where
  pub some : 1 ≤ length bytes
  pub short : length bytes ≤ 24
  pub alphabet : IsTrue (list_all is_name_byte bytes)
