use Rattle.std.specs.Prelude.{ℕ, [], ◌∷◌, ◌++◌, Bool, ◌&&◌, nat_lt, cond, Option, None, Some}
use Rattle.casper_words.specs.declared.call.Op.{Op}
use Rattle.casper_words.specs.declared.call.Op.TheVariants as op
use Rattle.casper_words.specs.declared.page.Right.{Right}
use Rattle.casper_words.specs.declared.page.Right.TheVariants as may
use Rattle.casper_model.specs.Held.{allows, with_first}
use Rattle.casper_model.specs.Own.{Own, room_of}

-- whether a client can make a call by itself: it holds the page with the right, and has room for one call
abbrev pub can_hit : Own → ℕ → Right → Bool
can_hit own page right = allows own.held page right && nat_lt 0 (room_of own)

-- a call made: it is pending, and its page stands first
abbrev pub with_call : Own → Op → ℕ → ℕ → ℕ → Own
with_call own op page word value = record own {
  held = with_first page own.held;
  pending = own.pending ++ record { op = op; page = page; word = word; value = value } ∷ [];
}

-- a read of a word that has this value for the client, by its own part alone, where that can be
abbrev pub hit_read : Own → ℕ → ℕ → ℕ → Option Own
hit_read own page word value = cond (can_hit own page may.Read) (Some (with_call own op.Read page word value)) None

-- a write of a word by the client's own part alone, where that can be
abbrev pub hit_write : Own → ℕ → ℕ → ℕ → Option Own
hit_write own page word value = cond (can_hit own page may.Write) (Some (with_call own op.Write page word value)) None
