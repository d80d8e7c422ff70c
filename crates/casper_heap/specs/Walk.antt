use Rattle.std.specs.Prelude.{ℕ, zero, suc, ◌+◌, ◌/◌, ◌%◌, Bool, ◌&&◌, not, ◌==◌, nat_lt, nat_le, cond, min, max, List, [], ◌∷◌, slice_index, Option, None, Some, option_map}
use Rattle.std.specs.List.{find}
use Rattle.casper_words.specs.declared.call.Call.{Call}
use Rattle.casper_space.specs.WordCalls.{read_of}
use Rattle.casper_heap.specs.declared.block.HeapBlock.{HeapBlock}

-- the end of the used part of a page, as its first word tells it: 0 counts as 1, and what is above 512 counts as 512
abbrev pub end_of : ℕ → ℕ
end_of first = min (max first 1) 512

-- a valid header tells the number of fields, 1 to 64, and whether the block is live
abbrev pub is_header : ℕ → Bool
is_header header = nat_le 1 (header % 256) && nat_le (header % 256) 64 && nat_le (header / 256) 1

-- the block that a header makes at a place
abbrev pub block_with : ℕ → ℕ → HeapBlock
block_with header place = record { place = place; fields = header % 256; live = header / 256 == 1 }

-- a block has a header, a word of tags, and its fields
abbrev pub block_end : HeapBlock → ℕ
block_end block = block.place + block.fields + 2

-- whether a header at a place makes a block that ends at or before the end
abbrev pub is_block : ℕ → ℕ → ℕ → Bool
is_block header place end = is_header header && nat_le (block_end (block_with header place)) end

abbrev pub block_if : ℕ → ℕ → ℕ → Option HeapBlock
block_if header place end = cond (is_block header place end) (Some (block_with header place)) None

-- whether a walk that has come to a place below the end meets a block there
abbrev pub has_block : List ℕ → ℕ → ℕ → Bool
has_block words end place = nat_lt place end && is_block (slice_index words place) place end

abbrev pub block_at : List ℕ → ℕ → HeapBlock
block_at words place = block_with (slice_index words place) place

-- the blocks that a walk of at most so many steps meets from a place on
abbrev pub blocks_from : List ℕ → ℕ → ℕ → ℕ → List HeapBlock
blocks_from words end zero place = []
blocks_from words end (suc steps) place =
    cond (has_block words end place) (block_at words place ∷ blocks_from words end steps (block_end (block_at words place))) []

-- the blocks that a walk meets from a place on; no walk has more steps than there are words before the end
abbrev pub blocks_at : List ℕ → ℕ → ℕ → List HeapBlock
blocks_at words end place = blocks_from words end end place

abbrev pub used_end : List ℕ → ℕ
used_end words = end_of (slice_index words 0)

-- the blocks of a page, in order
unfoldable pub blocks_of : List ℕ → List HeapBlock
blocks_of words = blocks_at words (used_end words) 1

-- the place after the last of these blocks
abbrev pub end_after : ℕ → List HeapBlock → ℕ
end_after place [] = place
end_after place (block ∷ blocks) = end_after (block_end block) blocks

-- where the walk of a page stops
abbrev pub walk_end : List ℕ → ℕ
walk_end words = end_after 1 (blocks_of words)

-- the number of fields of the live block at a place, where there is one
abbrev pub fields_in : List HeapBlock → ℕ → Option ℕ
fields_in blocks place = option_map (λ block. block.fields) (find (λ block. block.live && block.place == place) blocks)

-- the place of the first free block with so many fields, where there is one
abbrev pub first_free : List HeapBlock → ℕ → Option ℕ
first_free blocks count = option_map (λ block. block.place) (find (λ block. not block.live && block.fields == count) blocks)

-- the call that reads a word of a page
abbrev pub read_at : ℕ → List ℕ → ℕ → Call
read_at page words word = read_of page word (slice_index words word)

-- the headers that a walk reads from a place on: of each block that it meets, and where it stops if that is below the end
abbrev pub header_reads : ℕ → List ℕ → ℕ → ℕ → List HeapBlock → List Call
header_reads page words end place [] = cond (nat_lt place end) (read_at page words place ∷ []) []
header_reads page words end place (block ∷ blocks) = read_at page words place ∷ header_reads page words end (block_end block) blocks

-- the calls of the walk of a page
unfoldable pub walk_calls : (ℕ → List ℕ) → ℕ → List Call
walk_calls pages page =
    let words = pages page in
    read_at page words 0 ∷ header_reads page words (used_end words) 1 (blocks_of words)
