use Rattle.std.proofs.Common.{◌≡◌, Bool, true, false, cond, not, ◌&&◌, refl, ◌∙◌}
use Rattle.casper_words.specs.declared.page.Right.{Right}
use Rattle.casper_words.specs.declared.page.Right.TheVariants.{Read, Write}
use Rattle.casper_model.specs.Held.{is_to_write, is_of}
use Rattle.casper_model.specs.Opening.{any_right}
use Rattle.casper_hub.proofs.clients.is_for.Goals as goal

-- an ask to write passes either test
write_passes : (b to_write : Bool) (right : Right) → right ≡ Write → b ≡ (b && cond to_write is_to_write any_right right)
write_passes true true Write e = refl
write_passes true false Write e = refl
write_passes false to_write Write e = refl
write_passes b to_write Read e = cc

-- an ask to read does not pass the test for asks to write
read_fails : (b to_write : Bool) (right : Right) → right ≡ Read → to_write ≡ true → not to_write ≡ (b && cond to_write is_to_write any_right right)
read_fails true true Read e is = refl
read_fails false true Read e is = refl
read_fails b false Read e is = cc
read_fails b to_write Write e is = cc

pub returns-in-Write : goal.returns-in-Write
returns-in-Write c = c.eq.ensures ∙ write_passes (is_of c.args.page c.args.ask) c.args.to_write c.args.ask.right c.in-Write.is

pub returns-else-not-to_write : goal.returns-else-not-to_write
returns-else-not-to_write c = read_fails (is_of c.args.page c.args.ask) c.args.to_write c.args.ask.right c.in-Read.is c.if-not-to_write.false
