mod Small
