use Rattle.std.specs.Prelude.{ℕ, zero, suc, ◌+◌, ◌/◌, List, [], ◌∷◌, length, replicate, codes}
use Rattle.byteorder.specs.Endian.{little_number}
use Rattle.casper_rec.specs.declared.field.Field.{Field}
use Rattle.casper_rec.specs.Values.{with_values}
use Rattle.casper_words.specs.Padded.{padded}
use Rattle.casper_root.specs.declared.header.Header.{Header}
use Rattle.casper_root.specs.declared.body.Body.{Body}

-- so many numbers of four bytes, one after the other from this byte on
abbrev pub numbers_from : ℕ → ℕ → List Field
numbers_from byte zero = []
numbers_from byte (suc count) = record { offset = byte; width = 4 } ∷ numbers_from (byte + 4) count

-- the fields of a header: its name, how many pages, how many frames
abbrev pub header_fields : List Field
header_fields = record { offset = 0; width = 8 } ∷ numbers_from 8 2

-- the field of a gate
abbrev pub gate_fields : List Field
gate_fields = record { offset = 0; width = 8 } ∷ []

-- the fields of a body: its sequence number, how many map blocks, a frame number for each of up to 16 map blocks
abbrev pub body_fields : List Field
body_fields = record { offset = 0; width = 8 } ∷ numbers_from 8 17

-- a block of zeros
abbrev pub zero_block : List ℕ
zero_block = replicate 4096 0

-- the numbers of a header, whose name is `CASPER01`
abbrev pub header_values : Header → List ℕ
header_values header = little_number 8 (codes "CASPER01") ∷ header.pages ∷ header.frames ∷ []

-- the block of a header
unfoldable pub header_block : Header → List ℕ
header_block header = with_values header_fields (header_values header) zero_block

-- the first byte of an open gate
abbrev pub open_byte : ℕ
open_byte = 165

-- the block of an open gate
unfoldable pub open_gate_block : List ℕ
open_gate_block = with_values gate_fields (open_byte ∷ []) zero_block

-- the numbers of a body
abbrev pub body_values : Body → List ℕ
body_values body = body.seq ∷ length body.maps ∷ padded 16 0 body.maps

-- the block of a body
unfoldable pub body_block : Body → List ℕ
body_block body = with_values body_fields (body_values body) zero_block

-- how many map blocks these pages have, 1,024 pages each
abbrev pub map_blocks_of : ℕ → ℕ
map_blocks_of pages = (pages + 1023) / 1024
