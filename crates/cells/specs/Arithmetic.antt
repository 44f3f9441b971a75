-- How cells sum numbers of a type.

pub record Arithmetic (N : Type 0) : Type 0 where
  -- what a sum begins with
  pub start : N
  pub plus : N → N → N
  pub times : N → N → N
  -- the weight that is read past the end of a table; operations end before it
  pub past_end : N
