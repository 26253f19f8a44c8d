-- one thing after the other: as one search it would be too long
use Rattle.std.proofs.Common.{rules}
use Rattle.sq_workers.proofs.working.+fn-work_all-join+arg2+fn-work_all-join+arg3+work_all.Goals as goal

pub join-one-requires-after_bounds : goal.join-one-requires-after_bounds
join-one-requires-after_bounds g t c κs within = (
  (
    search rules,
    (
      λ a m. m,
      (
        λ a m. m,
        (
          λ a m. m,
          (
            λ a m. m,
            (
              λ a m. m,
              (
                λ a m. m,
                (
                  λ a m. m,
                  (
                    λ a m. m,
                    (
                      λ a m. m,
                      (
                        λ a m. m,
                        (
                          λ a m. m,
                          (
                            (
                              search rules,
                              search rules,
                              search rules,
                              search rules,
                              search rules,
                              search rules,
                              search rules,
                              search rules,
                              search rules,
                              search rules,
                              search rules,
                              search rules,
                              search rules,
                              search rules,
                              search rules,
                              search rules,
                              search rules,
                              search rules,
                              search rules,
                            ),
                            (
                              search rules,
                              search rules,
                              search rules,
                              search rules,
                              search rules,
                              search rules,
                              search rules,
                              search rules,
                              search rules,
                              search rules,
                              search rules,
                              search rules,
                            ),
                          ),
                        ),
                      ),
                    ),
                  ),
                ),
              ),
            ),
          ),
        ),
      ),
    ),
  ),
  (
    search rules,
    (
      λ a m. m,
      (
        λ a m. m,
        (
          λ a m. m,
          (
            λ a m. m,
            (
              λ a m. m,
              (
                λ a m. m,
                (
                  λ a m. m,
                  (
                    λ a m. m,
                    (
                      λ a m. m,
                      (
                        λ a m. m,
                        (
                          λ a m. m,
                          (
                            (
                              search rules,
                              search rules,
                              search rules,
                              search rules,
                              search rules,
                              search rules,
                              search rules,
                              search rules,
                              search rules,
                              search rules,
                              search rules,
                              search rules,
                              search rules,
                              search rules,
                              search rules,
                              search rules,
                              search rules,
                              search rules,
                              search rules,
                            ),
                            (
                              search rules,
                              search rules,
                              search rules,
                              search rules,
                              search rules,
                              search rules,
                              search rules,
                              search rules,
                              search rules,
                              search rules,
                              search rules,
                              search rules,
                            ),
                          ),
                        ),
                      ),
                    ),
                  ),
                ),
              ),
            ),
          ),
        ),
      ),
    ),
  ),
)
