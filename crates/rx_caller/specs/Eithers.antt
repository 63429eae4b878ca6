-- What a sink does that is one of two kinds: what that kind does, and it stays of that kind (this project's own rule).
use Rattle.std.specs.Prelude.{ℕ}
use Rattle.rx_sink.specs.Acts.{Acts}
use Rattle.rx_caller.specs.declared.either.Either.{Either}
use Rattle.rx_caller.specs.declared.either.Either.TheVariants.{First, Second}

-- both are of the same kind, and stand in the relation of that kind
abbrev pub Alike : {A B C D : Type 0} → (A → C → Type 0) → (B → D → Type 0) → Either A B → Either C D → Type 0
Alike P Q (First a) (First c) = P a c
Alike P Q (Second b) (Second d) = Q b d
Alike P Q (First a) (Second d) = ⊥
Alike P Q (Second b) (First c) = ⊥

-- how many faults the one had that it is
abbrev pub faults_of : {A B : Type 0} → (A → ℕ) → (B → ℕ) → Either A B → ℕ
faults_of f g (First a) = f a
faults_of f g (Second b) = g b

-- what the calls do
abbrev pub either_acts : {A B R T : Type 0} → Acts A R → Acts B T → Acts (Either A B) (Either R T)
either_acts p q = record {
  started = λ x who y. Alike (λ a c. p.started a who c) (λ b d. q.started b who d) x y;
  start_faulted = λ x who y. Alike (λ a c. p.start_faulted a who c) (λ b d. q.start_faulted b who d) x y;
  took = λ x note flow y. Alike (λ a c. p.took a note flow c) (λ b d. q.took b note flow d) x y;
  take_faulted = λ x note y. Alike (λ a c. p.take_faulted a note c) (λ b d. q.take_faulted b note d) x y;
  flushed = λ x flow y. Alike (λ a c. p.flushed a flow c) (λ b d. q.flushed b flow d) x y;
  flush_faulted = λ x y. Alike p.flush_faulted q.flush_faulted x y;
  finished = λ x rest. Alike p.finished q.finished x rest;
  faults = faults_of p.faults q.faults;
}
