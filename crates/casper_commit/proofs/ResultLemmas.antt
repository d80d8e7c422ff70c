use Rattle.std.proofs.Common.{◌≡◌, true, false}
use Rattle.std.specs.Prelude.{Result, Ok, Err, OnOk, OnErr, is_err}

-- two facts of an Ok make a third
pub on_ok_both : {T E P Q R : Type 0} (result : Result T E) → (P → Q → R) → OnOk result P → OnOk result Q → OnOk result R
on_ok_both (Ok value) both first second = both first second
on_ok_both (Err fault) both first second = tt

-- a fact holds of an error too
pub on_err : {T E P : Type 0} (result : Result T E) → P → OnErr result P
on_err (Ok value) fact = tt
on_err (Err fault) fact = fact

-- a fact of an error, where the answer is one
pub from_err : {T E P : Type 0} (result : Result T E) → is_err result ≡ true → OnErr result P → P
from_err (Ok value) is fact = cc
from_err (Err fault) is fact = fact

-- a fact of an Ok, where the answer is no error
pub from_ok : {T E P : Type 0} (result : Result T E) → is_err result ≡ false → OnOk result P → P
from_ok (Ok value) is fact = fact
from_ok (Err fault) is fact = cc
