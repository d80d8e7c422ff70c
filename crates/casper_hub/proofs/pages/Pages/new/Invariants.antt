use Rattle.std.proofs.Common.{◌≡◌, replicate, None}
use Rattle.std.specs.Vec.{vec_capacity, vec_len}
use Rattle.casper_hub.proofs.pages.Pages.new.Given as goal

-- so many places so far, all empty, and memory for all
abbrev pub invariant-loop-page : goal.invariant-loop-page
invariant-loop-page l = record {
  places : l.frames.items ≡ replicate l._page None;
  count : vec_len l.frames ≡ l._page;
  room : vec_capacity l.frames ≡ l.pages;
}
