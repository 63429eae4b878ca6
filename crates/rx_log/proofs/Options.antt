-- What holds of one variant.
use Rattle.std.proofs.Common.{Option, None, Some, IfSome, IfNone, Result, Ok, Err, IfOk, OnOk, ◌≡◌}

pub if-none : {A : Type 0} (o : Option A) (P Q : Type 0) → (P → Q) → IfNone o P → IfNone o Q
if-none None P Q so h = so h
if-none (Some x) P Q so h = h

pub if-some : {A : Type 0} (o : Option A) (P Q : A → Type 0) → ((x : A) → P x → Q x) → IfSome o P → IfSome o Q
if-some None P Q so h = h
if-some (Some x) P Q so h = so x h

pub if-ok : {A E : Type 0} (r : Result A E) (P Q : A → Type 0) → ((x : A) → P x → Q x) → IfOk r P → IfOk r Q
if-ok (Ok x) P Q so h = so x h
if-ok (Err e) P Q so h = h

pub on-ok : {A E : Type 0} (r : Result A E) (P : Type 0) → P → OnOk r P
on-ok (Ok x) P h = h
on-ok (Err e) P h = tt

pub on-ok_of_err : {A E : Type 0} (r : Result A E) (e : E) (P : Type 0) → r ≡ Err e → OnOk r P
on-ok_of_err (Ok x) e P is = absurd cc
on-ok_of_err (Err d) e P is = tt
