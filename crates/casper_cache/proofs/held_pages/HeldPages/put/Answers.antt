use Rattle.std.proofs.Common.{◌≡◌, ◌∷◌, ◌<◌, ap, sym, nat_eq, IsSome, IsNone, IsOk, length, refl, subst}
use Rattle.lru.specs.LruCache.{put_entries}
use Rattle.casper_cache.specs.declared.leaf.Leaf.{Leaf}
use Rattle.casper_cache.specs.Bounded.{Bounded}
use Rattle.casper_cache.specs.Holding.{others, right_of}
use Rattle.casper_cache.specs.Leaves.{shown}
use Rattle.casper_cache.proofs.Entries.{distinct-in_front}
use Rattle.casper_cache.proofs.LeafLemmas.{shown-put, found-again}
use Rattle.casper_cache.proofs.held_pages.HeldPages.put.Goals as goal
use Rattle.casper_cache.proofs.held_pages.HeldPages.put.Goals.{in-Ok+in-Some-1, in-Ok+in-None-1, in-Err}

-- the leaf that is put
abbrev leaf : goal.Joined-put → Leaf
leaf c = record { right = c.args.entry.right; words = c.args.entry.words }

-- there is room for the page
room : (c : goal.Joined-put) → IsNone (right_of c.args.entry.page (shown c.self.inside.leaves.entries)) → length (shown c.self.inside.leaves.entries) < c.self.inside.leaves.cap
room c = subst (λ (pages : Bounded). IsNone (right_of c.args.entry.page pages.held) → length pages.held < pages.most) (sym c.self.view_is) c.requires

-- the page comes to the front
in_front : (c : goal.Joined-put) → shown (put_entries nat_eq c.self.inside.leaves c.args.entry.page (leaf c)) ≡ c.args.entry ∷ others c.args.entry.page (shown c.self.inside.leaves.entries)
in_front c = shown-put c.args.entry.page (leaf c) c.self.inside.leaves c.self.invariant (room c)

pub invariant_of-self : goal.invariant_of-self
invariant_of-self c = elim c.match-put.branch [
  | in-Ok+in-Some-1 w ↦ rw (w.in-Ok.ensures.entries, in_front c) (distinct-in_front c.args.entry.page (shown c.self.inside.leaves.entries) c.args.entry refl c.self.invariant)
  | in-Ok+in-None-1 w ↦ rw (w.in-Ok.ensures.entries, in_front c) (distinct-in_front c.args.entry.page (shown c.self.inside.leaves.entries) c.args.entry refl c.self.invariant)
  | in-Err w ↦ rw w.in-Err.ensures.err c.self.invariant
]

pub returns-clause-ok : goal.returns-clause-ok
returns-clause-ok c =
    let held = ap (λ (pages : Bounded). record pages { held = c.args.entry ∷ others c.args.entry.page pages.held }) c.self.view_is in
    elim c.match-put.branch [
      | in-Ok+in-Some-1 w ↦ rw (w.result-is, w.in-Ok.ensures.entries, in_front c) held
      | in-Ok+in-None-1 w ↦ rw (w.result-is, w.in-Ok.ensures.entries, in_front c) held
      | in-Err w ↦ rw w.result-is tt
    ]

pub returns-clause-succeeds : goal.returns-clause-succeeds
returns-clause-succeeds c is =
    let there = found-again c.args.entry.page c.self.inside.leaves.entries (subst (λ (pages : Bounded). IsSome (right_of c.args.entry.page pages.held)) (sym c.self.view_is) is) in
    elim c.match-put.branch [
      | in-Ok+in-Some-1 w ↦ rw w.result-is refl
      | in-Ok+in-None-1 w ↦ rw w.result-is refl
      | in-Err w ↦ let done = subst IsOk w.in-Err.is (c.put.ensures.succeeds there) in cc
    ]
