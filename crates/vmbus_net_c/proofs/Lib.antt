mod RndisLaws
