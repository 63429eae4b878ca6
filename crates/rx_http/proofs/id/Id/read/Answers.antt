-- The first hyphen parts an id.
use Rattle.std.proofs.Common.{◌≡◌, ◌++◌, ℕ, List, sym, subst}
use Rattle.rx_http.specs.Epochs.{IsEpoch}
use Rattle.rx_http.specs.Ids.{id_of, over_word, place_digits}
use Rattle.rx_http.specs.Queries.{AreParted, HasNo}
use Rattle.rx_http.specs.Words.{IsId}
use Rattle.rx_http.specs.declared.id.Id.{Id}
use Rattle.rx_http.proofs.Cuts.{parted-none, parted-one}
use Rattle.rx_http.proofs.Told.{epoch-no_hyphen}
use Rattle.rx_http.proofs.id.Id.read.Goals as goal

-- what stands before the first hyphen of an id is its epoch, and what stands behind it what is known
parts_of : (id : Id) (front rest bytes : List ℕ) → IsId id → AreParted 45 front rest bytes → bytes ≡ id_of id
    → (front ≡ id.epoch) × (rest ≡ place_digits id.place ++ over_word id.over)
parts_of id front rest bytes is parts same =
    parted-one 45 front rest id.epoch (place_digits id.place ++ over_word id.over) bytes parts (record { none = epoch-no_hyphen id.epoch is.0; parts = same })

pub returns-in_default : goal.returns-in_default
returns-in_default c = λ id is same. parted-none 45 id.epoch (place_digits id.place ++ over_word id.over) (subst (HasNo 45) same c.in_default.ensures)

pub returns-in_default-new : goal.returns-in_default-new
returns-in_default-new c = λ id is same.
    c.in_default-new.ensures (subst IsEpoch (sym (parts_of id c.in-Some.epoch.now c.in-Some.known.now c.args.bytes.now is c.in-Some.ensures same).0) is.0)

pub returns-in-None : goal.returns-in-None
returns-in-None c = λ id is same.
    c.in-None.ensures (id.place, id.over) is.1 (parts_of id c.in-Some.epoch.now c.in-Some.known.now c.args.bytes.now is c.in-Some.ensures same).1
