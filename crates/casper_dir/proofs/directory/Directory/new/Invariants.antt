use Rattle.std.proofs.Common.{◌≡◌, ℕ, length, None}
use Rattle.casper_dir.specs.Rights.{right_at, AreAllClients}
use Rattle.casper_dir.proofs.directory.Directory.new.Given as goal

-- the pages so far, which nobody holds
abbrev pub invariant-loop-page : goal.invariant-loop-page
invariant-loop-page l = record {
  count : length l.holders.items ≡ l._page;
  clients : AreAllClients l.holders.items;
  none : (client page : ℕ) → right_at l.holders.items client page ≡ None;
}
