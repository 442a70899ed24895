-- A pair of facts as the two clauses of a function that writes: what it answers, and what it has written.
-- Assumes nothing.

pub both : {A B : Type 0} → A × B → record { answer : A; written : B }
both h = record { answer = h.0; written = h.1 }
