use Rattle.std.specs.Prelude.{◌≡◌, ℕ, ◌+◌, List, [], ◌∷◌, ◌++◌, length, cond, nat_lt, slice_index_or, slice_set, None, Some}
use Rattle.casper_words.specs.declared.page.Right.{Right}
use Rattle.casper_words.specs.declared.call.Call.{Call}
use Rattle.casper_words.specs.declared.call.Op.{Op}
use Rattle.casper_space.specs.WordCalls.{HeldWords}

-- pages in memory, each a list of its words, the calls made, and the room for more
pub record PlainPages : Type 0 where
  pub pages : List (List ℕ)
  pub calls : List Call
  pub room : ℕ

-- the words of a page, none past the last page
abbrev pub page_of : List (List ℕ) → ℕ → List ℕ
page_of pages page = slice_index_or pages page []

-- each page is held for writing
abbrev pub seen_of_plain : PlainPages → HeldWords
seen_of_plain plain = record {
  right = λ page. cond (nat_lt page (length plain.pages)) (Some Right.Write) None;
  words = page_of plain.pages;
  calls = plain.calls;
  room = plain.room;
}

-- the pages after a call, by what it does
abbrev pub pages_after_op : Op → List (List ℕ) → ℕ → ℕ → ℕ → List (List ℕ)
pages_after_op Op.Read pages page word value = pages
pages_after_op Op.Write pages page word value = slice_set pages page (slice_set (page_of pages page) word value)
pages_after_op Op.Touch pages page word value = pages

-- a call sets its word where it writes, is noted, and takes the room of one call
pub record PlainStep (before : PlainPages) (call : Call) (after : PlainPages) : Type 0 where
  pub pages : after.pages ≡ pages_after_op call.op before.pages call.page call.word call.value
  pub calls : after.calls ≡ before.calls ++ call ∷ []
  pub room : before.room ≡ after.room + 1
